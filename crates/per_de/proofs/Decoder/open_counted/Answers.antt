use Rattle.std.proofs.Common.{◌≡◌, ℕ, ap, length, refl, sym, ◌∙◌}
use Rattle.std.specs.Prelude.{count_by}
use Rattle.std.proofs.lemmas.Result.{err_from_is_err_and}
use Rattle.rasn_schema.specs.Fields.{may_be_absent}
use Rattle.rasn_schema.specs.Structures.{presence_bits}
use Rattle.rasn_schema.specs.Schemas.{count}
use Rattle.rasn_traits.proofs.Optionals.{bits_counted}
use Rattle.per_de.proofs.Additions.{shapes_counted}
use Rattle.per_decoding.specs.Turns.{awaiting}
use Rattle.per_de.proofs.InTurn.{behaves_err, behaves_ok, record_awaits, record_live, record_opened, record_unopened, still}
use Rattle.per_de.proofs.Decoder.open_counted.Goals as goal

pub returns-in_err-scope : goal.returns-in_err-scope
returns-in_err-scope g c =
    let p = err_from_is_err_and c.from_residual-in_err-scope.result c.from_residual-in_err-scope.ensures.1 in
    record {
      in_turn = λ ps bits many.
          let h = c.in_err-scope.ensures.to_read ps bits in
          record {
            law = rw (p.1, p.2) (record_unopened ps g.C.Constructed.additions g.C.Constructed.IS_EXTENSIBLE c.args.self.now c.begin_value.new.self c.open_record.new.self c.open_record.new.self _ c.in_ok-begin_value.ensures.noted h.law);
            counts = rw p.1 tt;
            behaves = rw (p.1, p.2) (behaves_err _ _ c.args.self.now c.begin_value.new.self c.open_record.new.self _ c.in_ok-begin_value.ensures.noted h.behaves);
          };
    }

pub set_turn-requires : goal.set_turn-requires
set_turn-requires g c =
    let h = c.in_ok-scope.ensures.to_read g.C.Constructed.parts (λ n. refl) in
    record_live _ _ _ _ (still c.args.self.now c.in_ok-begin_value.ensures.noted c.in_ok-begin_value.ensures.ok) h.law.1

pub returns : goal.returns
returns g c =
    let fields : (n : ℕ) → c.len.result ≡ count (g.C.Constructed.parts n) =
    λ n. c.len.ensures ∙ ap length (c.FIELDS.ensures ∙ g.C.Constructed.described n) ∙ shapes_counted 0 (g.C.Constructed.parts n) in
    let bits_are : (n : ℕ) → presence_bits (g.C.Constructed.parts 0) ≡ presence_bits (g.C.Constructed.parts n) =
    λ n. sym (ap (count_by may_be_absent) (g.C.Constructed.described 0) ∙ bits_counted 0 (g.C.Constructed.parts 0)) ∙ ap (count_by may_be_absent) (g.C.Constructed.described n) ∙ bits_counted 0 (g.C.Constructed.parts n) in
    let adds_are : (n : ℕ) → count (g.C.Constructed.additions 0) ≡ count (g.C.Constructed.additions n) =
    λ n. sym (ap length (g.C.Constructed.extends.described 0) ∙ shapes_counted 0 (g.C.Constructed.additions 0)) ∙ ap length (g.C.Constructed.extends.described n) ∙ shapes_counted 0 (g.C.Constructed.additions n) in
    let live = still c.args.self.now c.in_ok-begin_value.ensures.noted c.in_ok-begin_value.ensures.ok in
    record {
      in_turn = λ ps bits many.
          let h = c.in_ok-scope.ensures.to_read ps bits in
          record {
            law = record_opened awaiting ps g.C.Constructed.additions g.C.Constructed.IS_EXTENSIBLE c.args.self.now c.begin_value.new.self c.open_record.new.self c.set_turn.new.self
                c.in_ok-scope.scope c.turn-turn.result _ c.in_ok-begin_value.ensures.noted c.turn-turn.ensures c.set_turn.ensures (λ n. ap awaiting (fields n ∙ sym (many n))) h.law;
            counts = record_awaits ps g.C.Constructed.additions g.C.Constructed.IS_EXTENSIBLE c.begin_value.new.self c.open_record.new.self c.set_turn.new.self c.in_ok-scope.scope _ _ _ live c.set_turn.ensures
                (λ n. fields n ∙ sym (many n)) (λ n. bits_are n ∙ sym (bits n)) adds_are h.law;
            behaves = behaves_ok c.args.self.now c.begin_value.new.self c.open_record.new.self _ _ _ c.in_ok-begin_value.ensures.ok c.in_ok-begin_value.ensures.noted h.behaves.kept c.set_turn.ensures;
          };
    }
