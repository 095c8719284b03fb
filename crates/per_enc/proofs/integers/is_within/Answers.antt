use Rattle.std.proofs.Common.{◌≡◌, ◌∙◌, sym, ap, ap₂, subst, IsTrue, ℤ, ◌<ℤ◌, pos, not, Bool, false, rules, Option}
use Rattle.std.proofs.lemmas.Iterator.Adapters.{option_map_id}
use Rattle.rasn_types.specs.Bits.{signed}
use Rattle.rasn_types.proofs.Octets.{signed-signed_octets}
use Rattle.rasn_constraints.specs.Bounds.{fits_i128, holds}
use Rattle.rasn_constraints.specs.Constraints.{bounds_of}
use Rattle.per_enc.proofs.Constrained.{IsHeld, negative_within, positive_within}
use Rattle.per_enc.proofs.integers.is_within.Goals as goal
use Rattle.per_enc.proofs.integers.is_within.Goals.{then-is_negative, else-is_negative}

turned : (a b : Bool) → a ≡ not b → b ≡ not a
turned a b e = search rules

pub returns : goal.returns
returns g c =
    let z : ℤ = g.I.IntegerType.number c.args.number.now in
    let lower : IsHeld c.start_and_end-lower.result.0 = λ x e. search rules in
    let upper : IsHeld c.start_and_end-lower.result.1 = λ x e. search rules in
    let past : fits_i128 z ≡ false = search rules in
    let means : signed c.deref.result.now ≡ z = ap signed (c.deref.ensures.value ∙ c.in_ok-octets.ensures.octets) ∙ signed-signed_octets z in
    let bounds : holds (record { low = c.start_and_end-lower.result.0; high = c.start_and_end-lower.result.1 }) z ≡ holds (bounds_of c.args.bounds.now) z =
    ap₂ (λ (l u : Option ℤ). holds (record { low = l; high = u }) z) (c.start_and_end-lower.ensures.start ∙ sym (option_map_id _)) (c.start_and_end-lower.ensures.end ∙ sym (option_map_id _)) in
    elim c.if-is_negative.branch [
      | then-is_negative w ↦ w.result-is ∙ turned _ _ w.is_none.ensures
          ∙ negative_within c.start_and_end-lower.result.0 c.start_and_end-lower.result.1 z lower upper past (subst (λ y. y <ℤ pos 0) means (c.is_negative.ensures.0 (search rules))) ∙ bounds
      | else-is_negative w ↦ w.result-is ∙ turned _ _ w.is_none-else-is_negative.ensures
          ∙ positive_within c.start_and_end-lower.result.0 c.start_and_end-lower.result.1 z lower upper past (λ h. let t : IsTrue c.is_negative.result = c.is_negative.ensures.1 (subst (λ y. y <ℤ pos 0) (sym means) h) in absurd (search rules)) ∙ bounds
    ]
