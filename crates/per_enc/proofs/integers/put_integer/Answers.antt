use Rattle.std.proofs.Common.{◌≡◌, ◌∙◌, sym, refl, subst, inr, rules, false, ℤ, Option, MatchOption}
use Rattle.std.proofs.lemmas.Iterator.Adapters.{option_map_id}
use Rattle.std.proofs.lemmas.Result.{on_ok_weaker, IfOk-at_ok}
use Rattle.rasn_constraints.specs.Constraints.{bounds_of}
use Rattle.rasn_constraints.specs.Bounds.{fits_i128}
use Rattle.per_write.proofs.Unbounded.{whole_written}
use Rattle.per_enc.proofs.Constrained.{presents_within, presents_marked, presents_outside, within_law, outside_law, refuses_outside}
use Rattle.per_enc.proofs.integers.put_integer.Goals as goal

pub returns-in_ok-put_bit-in-true-true : goal.returns-in_ok-put_bit-in-true-true
returns-in_ok-put_bit-in-true-true g c =
    let x = c.unless_out_of_memory.new.self in
    let m = c.put_bit.new.self in
    let b = bounds_of c.args.stated.constraint in
    record {
      law = rw (← c.in_ok-within.ensures.kept, c.in-true-true.is-1)
          (within_law x m c.put_within.new.writer b _ g.I.IntegerType.range (g.I.IntegerType.number c.args.value.now) c.put_within.result c.in_ok-put_bit-in-true-true.ensures.ok.same c.to_i128-number.ensures.held
          (on_ok_weaker _ (presents_marked x m _ b g.I.IntegerType.range _ c.to_i128-number.ensures.held (sym (IfOk-at_ok _ c.in_ok-within.ensures.ok c.is_within-within.ensures) ∙ c.in-true-true.is-0) c.in_ok-put_bit-in-true-true.ensures.ok) c.put_within.ensures.ok)
          c.put_within.ensures.err);
      behaves = search rules;
    }

pub returns-in-true-false : goal.returns-in-true-false
returns-in-true-false g c =
    let x = c.unless_out_of_memory.new.self in
    let b = bounds_of c.args.stated.constraint in
    record {
      law = rw (← c.in_ok-within.ensures.kept, c.in-true-false.is-1)
          (within_law x x c.put_within-in-true-false.new.writer b _ g.I.IntegerType.range (g.I.IntegerType.number c.args.value.now) c.put_within-in-true-false.result refl c.to_i128-number.ensures.held
          (on_ok_weaker _ (presents_within x _ b g.I.IntegerType.range _ c.to_i128-number.ensures.held (sym (IfOk-at_ok _ c.in_ok-within.ensures.ok c.is_within-within.ensures) ∙ c.in-true-false.is-0)) c.put_within-in-true-false.ensures.ok)
          c.put_within-in-true-false.ensures.err);
      behaves = search rules;
    }

pub returns-in_ok-put_bit-in-false-true : goal.returns-in_ok-put_bit-in-false-true
returns-in_ok-put_bit-in-false-true g c =
    let x = c.unless_out_of_memory.new.self in
    let m = c.put_bit-in-false-true.new.self in
    let b = bounds_of c.args.stated.constraint in
    record {
      law = rw (← c.in_ok-within.ensures.kept, c.in-false-true.is-1)
          (outside_law x m c.put_unconstrained_whole.new.self b _ g.I.IntegerType.range (g.I.IntegerType.number c.args.value.now) c.put_unconstrained_whole.result c.in_ok-put_bit-in-false-true.ensures.ok.same
          (on_ok_weaker _ (presents_outside x m _ b g.I.IntegerType.range _ c.to_i128-number.ensures.held (sym (IfOk-at_ok _ c.in_ok-within.ensures.ok c.is_within-within.ensures) ∙ c.in-false-true.is-0) c.in_ok-put_bit-in-false-true.ensures.ok) (whole_written _ _ _ _ _ c.put_unconstrained_whole.ensures.ok))
          c.put_unconstrained_whole.ensures.err);
      behaves = search rules;
    }

pub returns-in-false-false : goal.returns-in-false-false
returns-in-false-false g c =
    let x = c.unless_out_of_memory.new.self in
    let b = bounds_of c.args.stated.constraint in
    let z = g.I.IntegerType.number c.args.value.now in
    record {
      law = rw (← c.in_ok-within.ensures.kept, c.in-false-false.is-1)
          (inr (refuses_outside c.refuse.result x b g.I.IntegerType.range z c.new-told.result c.to_i128-number.ensures.held c.refuse.ensures.error (record {
            out_of_bounds = sym (IfOk-at_ok _ c.in_ok-within.ensures.ok c.is_within-within.ensures) ∙ c.in-false-false.is-0;
            value_is = subst (λ (n : Option ℤ). MatchOption n (fits_i128 z ≡ false) (λ m. m ≡ z)) (sym c.new-told.ensures.value) c.to_i128-number.ensures.number;
            lower_is = c.new-told.ensures.lower ∙ c.start_and_end-lower.ensures.start ∙ sym (option_map_id _);
            upper_is = c.new-told.ensures.upper ∙ c.start_and_end-lower.ensures.end ∙ sym (option_map_id _);
          })));
      behaves = search rules;
    }
