use Rattle.std.proofs.Common.{refl}
use Rattle.std.proofs.lemmas.Result.{err_from_is_err_and}
use Rattle.per_decoding.specs.Turns.{uncounted}
use Rattle.per_de.proofs.InTurn.{behaves_err, behaves_ok, record_live, record_opened, record_unopened, still}
use Rattle.per_de.proofs.typed.DecoderDecoder.open_fields.Goals as goal

pub returns-in_err-scope : goal.returns-in_err-scope
returns-in_err-scope g c =
    let p = err_from_is_err_and c.from_residual-in_err-scope.result c.from_residual-in_err-scope.ensures.1 in
    let h = c.in_err-scope.ensures.to_read g.C.Constructed.parts (λ n. refl) in
    record {
      law = rw (p.1, p.2) (record_unopened g.C.Constructed.parts g.C.Constructed.additions g.C.Constructed.IS_EXTENSIBLE c.args.self.now c.begin_scope.new.self c.open_record.new.self c.open_record.new.self _ c.in_ok-turn.ensures.noted h.law);
      behaves = rw (p.1, p.2) (behaves_err _ _ c.args.self.now c.begin_scope.new.self c.open_record.new.self _ c.in_ok-turn.ensures.noted h.behaves);
    }

pub set_turn-requires : goal.set_turn-requires
set_turn-requires g c =
    let h = c.in_ok-scope.ensures.to_read g.C.Constructed.parts (λ n. refl) in
    record_live _ _ _ _ (still c.args.self.now c.in_ok-turn.ensures.noted c.in_ok-turn.ensures.ok) h.law.1

pub returns : goal.returns
returns g c =
    let h = c.in_ok-scope.ensures.to_read g.C.Constructed.parts (λ n. refl) in
    record {
      law = record_opened (λ n. uncounted) g.C.Constructed.parts g.C.Constructed.additions g.C.Constructed.IS_EXTENSIBLE c.args.self.now c.begin_scope.new.self c.open_record.new.self c.set_turn.new.self
          c.in_ok-scope.scope c.in_ok-turn.turn _ c.in_ok-turn.ensures.noted c.in_ok-turn.ensures.turn c.set_turn.ensures (λ n. refl) h.law;
      behaves = behaves_ok c.args.self.now c.begin_scope.new.self c.open_record.new.self _ _ _ c.in_ok-turn.ensures.ok c.in_ok-turn.ensures.noted h.behaves.kept c.set_turn.ensures;
    }
