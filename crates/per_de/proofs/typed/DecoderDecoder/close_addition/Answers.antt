use Rattle.std.proofs.lemmas.Result.{err_from_is_err_and}
use Rattle.per_decoding.specs.Additions.{ClosesAddition}
use Rattle.per_decoding.specs.Faults.{UnendedAddition}
use Rattle.per_decoding.proofs.Scoping.InTurn.{cant_end_one, cant_end_within, contradicts, uncounted_since}
use Rattle.per_decoding.specs.Turns.{is_complete}
use Rattle.rasn_traits.specs.Amounts.{one_value}
use Rattle.per_de.specs.Outsides.{outside_addition_of}
use Rattle.per_de.specs.Turns.{turn_of}
use Rattle.per_de.proofs.InTurn.{behaves_left, addition_left, incomplete, incomplete_behaves, incomplete_in_fields, incomplete_in_list, incomplete_untimely, open_here, left, unleft}
use Rattle.per_de.proofs.typed.DecoderDecoder.close_addition.Goals as goal

pub returns-in_err-check_complete : goal.returns-in_err-check_complete
returns-in_err-check_complete c =
    let p = err_from_is_err_and c.from_residual.result c.from_residual.ensures.1 in
    let s = c.args.self.now in
    let o = c.args.outside in
    let h = c.in_err-check_complete.ensures in
    record {
      law = rw (p.1, p.2) (λ live. incomplete (UnendedAddition (outside_addition_of s.source o.scope)) (λ a b. ClosesAddition a (outside_addition_of s.source o.scope) b) (turn_of o.turn) s _ _ h live);
      untimely = rw (p.1, p.2) (λ i came w k other. incomplete_untimely one_value s _ _ h i came w k);
      in_list = rw (p.1, p.2) (λ i m due came w k a. incomplete_in_list s _ _ h m a);
      in_fields = rw (p.1, p.2) (λ c m i o came a k. incomplete_in_fields s _ _ h a k);
      behaves = rw (p.1, p.2) (incomplete_behaves s _ _ h);
    }

pub returns-in_err-leave_open : goal.returns-in_err-leave_open
returns-in_err-leave_open c =
    let p = err_from_is_err_and c.from_residual-in_err-leave_open.result c.from_residual-in_err-leave_open.ensures.1 in
    let s = c.args.self.now in
    let o = c.args.outside in
    let q = c.in_ok-check_complete.ensures in
    let h = open_here o.scope q.2 c.in_err-leave_open.ensures in
    record {
      law = rw (p.1, p.2) (λ live. unleft is_complete (UnendedAddition (outside_addition_of s.source o.scope)) (λ a b. ClosesAddition a (outside_addition_of s.source o.scope) b) (turn_of o.turn) s _ (h.law live));
      untimely = rw (p.1, p.2) (λ i came w k other. absurd (cant_end_one came i s w k other q.1));
      in_list = rw (p.1, p.2) (λ i m due came w k a. contradicts (cant_end_within due came i m s w k a) q.1);
      in_fields = rw (p.1, p.2) (λ c m i o came a k. contradicts (uncounted_since a k) q.1);
      behaves = rw (p.1, p.2) (record { again = h.behaves.again; fails = h.behaves.fails; kept = h.behaves.kept });
    }

pub set_turn-requires : goal.set_turn-requires
set_turn-requires c =
    let q = c.in_ok-check_complete.ensures in
    let h = open_here c.args.outside.scope q.2 c.in_ok-leave_open.ensures in
    (addition_left _ _ _ (h.law q.0)).live

pub returns : goal.returns
returns c =
    let s = c.args.self.now in
    let o = c.args.outside in
    let q = c.in_ok-check_complete.ensures in
    let h = open_here o.scope q.2 c.in_ok-leave_open.ensures in
    let k = addition_left _ _ _ (h.law q.0) in
    record {
      law = λ live. left is_complete (UnendedAddition (outside_addition_of s.source o.scope)) (λ a b. ClosesAddition a (outside_addition_of s.source o.scope) b) (turn_of o.turn) s _ _ q.1 k.turn (h.law q.0) c.set_turn.ensures;
      untimely = λ i came w j other. absurd (cant_end_one came i s w j other q.1);
      in_list = λ i m due came w j a. contradicts (cant_end_within due came i m s w j a) q.1;
      in_fields = λ c m i o came a k. contradicts (uncounted_since a k) q.1;
      behaves = behaves_left _ q.0 k c.set_turn.ensures;
    }
