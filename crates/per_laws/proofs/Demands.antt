-- What lawful bounds and lawful defaults give.
use Rattle.std.proofs.Common.{◌≡◌, sym, ap, ◌∙◌, ap₂, ℕ, ◌+◌, ◌<◌, ◌^◌, Bool, true, false, not, ltb, ◌&&◌, inl, inr, ◌⊎◌, Some, arith, ℤ, pos, negsuc}
use Rattle.std.proofs.lemmas.Bool.Decides.{nat_tests}
use lib.Signed.{le_z}
use Rattle.rasn_types.specs.Values.{Value}
use Rattle.rasn_constraints.specs.Bounds.{holds, not_below, not_above, above, Bounds}
use Rattle.rasn_schema.specs.Depth.{meets_cut}
use Rattle.rasn_constraints.specs.LawfulConstraints.{are_lawful_bounds}
use Rattle.rasn_schema.specs.Lawful.{IsLawful, AreLawful, is_value}
use Rattle.rasn_schema.specs.Normal.{normal}
use Rattle.rasn_schema.specs.Schemas.{required, optional, group, default, Order, Schema, Parts, no_parts, part}
use Rattle.per_core.proofs.LengthForms.{and_left, and_right}
use Rattle.per_laws.specs.Listings.{HasDefault}
use Rattle.per_laws.specs.Written.{is_written}
use Rattle.per_laws.proofs.Reading.{same_self}

-- numbers in order have distances in order
apart : (l u z : ℤ) → le_z l z ≡ true → le_z z u ≡ true → above l z < above l u + 1
apart (pos l) (pos u) (pos z) e f = grind (arith, nat_tests)
apart (pos l) (pos u) (negsuc z) e f = grind (arith, nat_tests)
apart (pos l) (negsuc u) (pos z) e f = grind (arith, nat_tests)
apart (pos l) (negsuc u) (negsuc z) e f = grind (arith, nat_tests)
apart (negsuc l) (pos u) (pos z) e f = grind (arith, nat_tests)
apart (negsuc l) (pos u) (negsuc z) e f = grind (arith, nat_tests)
apart (negsuc l) (negsuc u) (pos z) e f = grind (arith, nat_tests)
apart (negsuc l) (negsuc u) (negsuc z) e f = grind (arith, nat_tests)

below : (m n : ℕ) → ltb m n ≡ true → m < n
below m n e = grind (arith, nat_tests)

pub distance_fits : (bounds range : Bounds) (mark : Bool) → IsLawful (Schema.number bounds mark range) → (l u z : ℤ) → bounds.low ≡ Some l → bounds.high ≡ Some u → holds bounds z ≡ true →
    (above l z < above l u + 1) × (above l u + 1 < 2 ^ 127)
unfolding IsLawful
distance_fits bounds range mark k l u z e f h =
    let o : are_lawful_bounds (Some l) (Some u) ≡ true = ap₂ are_lawful_bounds (sym e) (sym f) ∙ k in
    let i : (le_z l z && le_z z u) ≡ true = ap₂ (λ x y. not_below x z && not_above y z) (sym e) (sym f) ∙ h in (
      apart l u z (and_left (le_z l z) (le_z z u) i) (and_right (le_z l z) (le_z z u) i),
      below (above l u + 1) (2 ^ 127) (and_right (le_z l u) (ltb (above l u + 1) (2 ^ 127)) o),
    )

-- a default among lawful parts
among : (ps : Parts) → AreLawful ps → (s : Schema) (d : Value) → HasDefault ps s d → meets_cut s d ≡ false → (is_value s d ≡ true) × (normal s d ≡ d)
unfolding IsLawful
among no_parts l s d h m = absurd h
among (part t p s' ps) l s d (inr h) m = among ps l.2 s d h m
among (part t required s' ps) l s d (inl h) m = absurd (let e : required ≡ default d = h.0 in cc)
among (part t optional s' ps) l s d (inl h) m = absurd (let e : optional ≡ default d = h.0 in cc)
among (part t group s' ps) l s d (inl h) m = absurd (let e : group ≡ default d = h.0 in cc)
among (part t (default x) s' ps) l s d (inl h) m =
    let e : x ≡ d = let e' : default x ≡ default d = h.0 in cc in
    let g : meets_cut s' x ≡ false = ap₂ meets_cut h.1 e ∙ m in
    (ap₂ is_value (sym h.1) (sym e) ∙ l.0.is_of_kind g, ap₂ normal (sym h.1) (sym e) ∙ l.0.is_normal g ∙ e)

pub default_is_value : (o : Order) (ps adds : Parts) (ext : Bool) → IsLawful (Schema.sequence o ps ext adds) → (s : Schema) (d : Value) → HasDefault ps s d ⊎ HasDefault adds s d → meets_cut s d ≡ false →
    (is_value s d ≡ true) × (normal s d ≡ d) × (is_written (default d) (normal s d) ≡ false)
unfolding IsLawful
default_is_value o ps adds ext l s d h m =
    let q : (is_value s d ≡ true) × (normal s d ≡ d) = elim h [ inl i ↦ among ps l.1 s d i m | inr i ↦ among adds l.2 s d i m ] in
    (q.0, q.1, ap (λ v. is_written (default d) v) q.1 ∙ ap not (same_self d))
