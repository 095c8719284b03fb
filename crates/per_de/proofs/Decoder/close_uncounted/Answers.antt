use Rattle.std.proofs.lemmas.Result.{err_from_is_err_and}
use Rattle.per_decoding.specs.Faults.{Unended}
use Rattle.per_decoding.proofs.Scoping.InTurn.{contradicts, counted_since, counted_within}
use Rattle.per_decoding.specs.Scopes.{Closes}
use Rattle.per_decoding.specs.Turns.{is_uncounted}
use Rattle.per_de.specs.Outsides.{outside_record_of}
use Rattle.per_de.specs.Turns.{turn_of}
use Rattle.per_de.proofs.InTurn.{behaves_left, left, record_left, unfailed, unleft}
use Rattle.per_de.proofs.Decoder.close_uncounted.Goals as goal

pub returns-in_err-leave_record : goal.returns-in_err-leave_record
returns-in_err-leave_record c =
    let p = err_from_is_err_and c.from_residual.result c.from_residual.ensures.1 in
    let s = c.args.self.now in
    let o = c.args.outside in
    let h = c.in_err-leave_record.ensures in
    record {
      law = rw (p.1, p.2) (λ live. unleft is_uncounted Unended (λ a b. Closes a (outside_record_of s.source o.scope) b) (turn_of o.turn) s _ (h.law live));
      untimely = rw (p.1, p.2) (λ due i came w k other. contradicts (counted_since due came i s w k) c.requires);
      in_list = rw (p.1, p.2) (λ i m due came w k a. contradicts (counted_within due came i m s w k a) c.requires);
      behaves = rw (p.1, p.2) (record { again = h.behaves.again; fails = h.behaves.fails; kept = h.behaves.kept });
    }

pub set_turn-requires : goal.set_turn-requires
set_turn-requires c =
    let h = c.in_ok-leave_record.ensures in
    (record_left _ _ _ (h.law (unfailed _ h.behaves.again))).live

pub returns : goal.returns
returns c =
    let s = c.args.self.now in
    let o = c.args.outside in
    let h = c.in_ok-leave_record.ensures in
    let live = unfailed s.failed h.behaves.again in
    let k = record_left _ _ _ (h.law live) in
    record {
      law = λ l. left is_uncounted Unended (λ a b. Closes a (outside_record_of s.source o.scope) b) (turn_of o.turn) s _ _ c.requires k.turn (h.law live) c.set_turn.ensures;
      untimely = λ due i came w j other. contradicts (counted_since due came i s w j) c.requires;
      in_list = λ i m due came w j a. contradicts (counted_within due came i m s w j a) c.requires;
      behaves = behaves_left _ live k c.set_turn.ensures;
    }
