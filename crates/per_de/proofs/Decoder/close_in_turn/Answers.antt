use Rattle.std.proofs.lemmas.Result.{err_from_is_err_and}
use Rattle.per_decoding.specs.Faults.{Unended}
use Rattle.per_decoding.proofs.Scoping.InTurn.{cant_end, cant_end_within, contradicts, uncounted_since}
use Rattle.per_decoding.specs.Scopes.{Closes}
use Rattle.per_decoding.specs.Turns.{is_complete}
use Rattle.per_de.specs.Outsides.{outside_record_of}
use Rattle.per_de.specs.Turns.{turn_of}
use Rattle.per_de.proofs.InTurn.{behaves_left, incomplete, incomplete_behaves, incomplete_in_fields, incomplete_in_list, incomplete_untimely, record_here, left, record_left, unleft}
use Rattle.per_de.proofs.Decoder.close_in_turn.Goals as goal

pub returns-in_err-check_complete : goal.returns-in_err-check_complete
returns-in_err-check_complete c =
    let p = err_from_is_err_and c.from_residual.result c.from_residual.ensures.1 in
    let s = c.args.self.now in
    let o = c.args.outside in
    let h = c.in_err-check_complete.ensures in
    record {
      ends = record {
        law = rw (p.1, p.2) (λ live. incomplete Unended (λ a b. Closes a (outside_record_of s.source o.scope) b) (turn_of o.turn) s _ _ h live);
        untimely = rw (p.1, p.2) (λ due i came w k other. incomplete_untimely due s _ _ h i came w k);
        in_list = rw (p.1, p.2) (λ i m due came w k a. incomplete_in_list s _ _ h m a);
        behaves = rw (p.1, p.2) (incomplete_behaves s _ _ h);
      };
      in_fields = rw (p.1, p.2) (λ d m i u came a k. incomplete_in_fields s _ _ h a k);
    }

pub returns-in_err-leave_record : goal.returns-in_err-leave_record
returns-in_err-leave_record c =
    let p = err_from_is_err_and c.from_residual-in_err-leave_record.result c.from_residual-in_err-leave_record.ensures.1 in
    let s = c.args.self.now in
    let o = c.args.outside in
    let q = c.in_ok-check_complete.ensures in
    let h = record_here o.scope q.2 c.in_err-leave_record.ensures in
    record {
      ends = record {
        law = rw (p.1, p.2) (λ live. unleft is_complete Unended (λ a b. Closes a (outside_record_of s.source o.scope) b) (turn_of o.turn) s _ (h.law live));
        untimely = rw (p.1, p.2) (λ due i came w k other. h.early q.0 (λ r n. cant_end due came i s w k other q.1 r n));
        in_list = rw (p.1, p.2) (λ i m due came w k a. contradicts (cant_end_within due came i m s w k a) q.1);
        behaves = rw (p.1, p.2) (record { again = h.behaves.again; fails = h.behaves.fails; kept = h.behaves.kept });
      };
      in_fields = rw (p.1, p.2) (λ d m i u came a k. contradicts (uncounted_since a k) q.1);
    }

pub set_turn-requires : goal.set_turn-requires
set_turn-requires c =
    let q = c.in_ok-check_complete.ensures in
    let h = record_here c.args.outside.scope q.2 c.in_ok-leave_record.ensures in
    (record_left _ _ _ (h.law q.0)).live

pub returns : goal.returns
returns c =
    let s = c.args.self.now in
    let o = c.args.outside in
    let q = c.in_ok-check_complete.ensures in
    let h = record_here o.scope q.2 c.in_ok-leave_record.ensures in
    let k = record_left _ _ _ (h.law q.0) in
    record {
      ends = record {
        law = λ live. left is_complete Unended (λ a b. Closes a (outside_record_of s.source o.scope) b) (turn_of o.turn) s _ _ q.1 k.turn (h.law q.0) c.set_turn.ensures;
        untimely = λ due i came w j other. h.early q.0 (λ r n. cant_end due came i s w j other q.1 r n);
        in_list = λ i m due came w j a. contradicts (cant_end_within due came i m s w j a) q.1;
        behaves = behaves_left _ q.0 k c.set_turn.ensures;
      };
      in_fields = λ d m i u came a j. contradicts (uncounted_since a j) q.1;
    }
