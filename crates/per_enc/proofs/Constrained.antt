-- What calls of an INTEGER under a value constraint present, and how they refuse.
use Rattle.std.specs.Prelude.{OnOk, IfErr, Result, Ok, Err}
use Rattle.std.proofs.Common.{◌≡◌, ◌⊎◌, refl, sym, ap, ◌∙◌, subst, ℕ, ◌+◌, Bool, true, false, ◌&&◌, not, [], ◌∷◌, Option, Some, None, arith, ℤ, pos, inl, inr, FitsSigned, ◌<ℤ◌}
use Rattle.std.specs.Int.{w128}
use Rattle.std.proofs.lemmas.Int.{ints}
use Rattle.std.specs.Option.{is_some}
use lib.Signed.{le_z}
use Rattle.rasn_types.specs.Variants.{variant_of, Variant}
use Rattle.rasn_types.specs.Bits.{whole_bits, natural_bits}
use Rattle.rasn_types.specs.Values.{whole}
use Rattle.rasn_constraints.specs.Bounds.{above, fits_i128, holds, not_above, Bounds, value_of, lower_of, upper_of}
use Rattle.rasn_traits.specs.Calls.{Written}
use Rattle.rasn_constraints.specs.declared.bounds.OutOfBounds.{OutOfBounds}
use Rattle.per_write.specs.Rules.{encoder_rules}
use Rattle.rasn_schema.specs.Schemas.{Schema}
use Rattle.per_core.specs.Canon.{canon}
use Rattle.per_core.specs.Counts.{constrained_whole, counted_octets, marked_form, number_form, number_under}
use Rattle.per_core.specs.Writers.{just, join, after, written_if}
use Rattle.per_core.specs.declared.encode_error.EncodeError.{EncodeError}
use Rattle.per_core.specs.declared.encode_error.EncodeErrorKind.TheVariants.{ValueConstraintNotSatisfied}
use Rattle.per_core.specs.declared.encode_error.EncodeErrorKind.TheVariants.{IntegerTypeConversionFailed}
use Rattle.per_core.specs.WritingFaults.{at_once, has_bound, IsPast, Outside}
use Rattle.per_write.specs.Faults.{IsError, IsMemory, RefusesValue, Stands}
use Rattle.per_write.specs.WriterState.{WriterState, StateAppends, Presents}
use Rattle.per_write.proofs.Writing.{wrote_then, wrote_same}

-- a number past an i128 has no form under a bound
under_past : (a : Variant) (l u : Option ℤ) (v : ℤ) → has_bound (record { low = l; high = u }) ≡ true → fits_i128 v ≡ false → (p : ℕ) → number_under a l u v p ≡ None
unfolding number_under
under_past a (Some l) (Some u) v h e p = ap (λ (b : Bool). written_if b (constrained_whole a (above l u + 1) (above l v)) p) e
under_past a (Some l) None v h e p = ap (λ (b : Bool). written_if b (counted_octets a (natural_bits (above l v))) p) e
under_past a None (Some u) v h e p = ap (λ (b : Bool). written_if b (counted_octets a (whole_bits v)) p) e
under_past a None None v h e p = absurd cc

-- numbers of an i128 against a number past it
negative_least : (l z : ℤ) → FitsSigned w128 l → fits_i128 z ≡ false → z <ℤ pos 0 → le_z l z ≡ false
negative_least l z f e h = grind (arith, ints)

negative_most : (u z : ℤ) → FitsSigned w128 u → fits_i128 z ≡ false → z <ℤ pos 0 → le_z z u ≡ true
negative_most u z f e h = grind (arith, ints)

positive_least : (l z : ℤ) → FitsSigned w128 l → fits_i128 z ≡ false → (z <ℤ pos 0 → ⊥) → le_z l z ≡ true
positive_least l z f e h = grind (arith, ints)

positive_most : (u z : ℤ) → FitsSigned w128 u → fits_i128 z ≡ false → (z <ℤ pos 0 → ⊥) → le_z z u ≡ false
positive_most u z f e h = grind (arith, ints)

-- a bound that an i128 holds, where it is there
abbrev pub IsHeld : Option ℤ → Type 0
IsHeld o = (x : ℤ) → o ≡ Some x → FitsSigned w128 x

-- a number below those of an i128 is within bounds that have no lower one
pub negative_within : (l u : Option ℤ) (z : ℤ) → IsHeld l → IsHeld u → fits_i128 z ≡ false → z <ℤ pos 0 → not (is_some l) ≡ holds (record { low = l; high = u }) z
negative_within None None z f g e h = refl
negative_within None (Some u) z f g e h = sym (negative_most u z (g u refl) e h)
negative_within (Some l) u z f g e h = sym (ap (λ b. b && not_above u z) (negative_least l z (f l refl) e h))

-- one above them is within bounds that have no upper one
pub positive_within : (l u : Option ℤ) (z : ℤ) → IsHeld l → IsHeld u → fits_i128 z ≡ false → (z <ℤ pos 0 → ⊥) → not (is_some u) ≡ holds (record { low = l; high = u }) z
positive_within None None z f g e h = refl
positive_within (Some l) None z f g e h = sym (ap (λ b. b && true) (positive_least l z (f l refl) e h))
positive_within None (Some u) z f g e h = sym (positive_most u z (g u refl) e h)
positive_within (Some l) (Some u) z f g e h = sym (ap (λ b. b && le_z z u) (positive_least l z (f l refl) e h) ∙ positive_most u z (g u refl) e h)

-- X.691 13: a number of the type's range, by whether it is within its bounds
number_canon : (a : Variant) (b : Bounds) (mark : Bool) (range : Bounds) (z : ℤ) (within : Bool) → holds range z ≡ true → holds b z ≡ within → (p : ℕ) →
    marked_form mark within (written_if within (number_under a b.low b.high z)) (counted_octets a (whole_bits z)) p ≡ canon a (Schema.number b mark range) (whole z) p
unfolding canon number_form
number_canon a b mark range z within h k p = sym (rw (h, k) refl)

pub presents_within : (x y : WriterState) (b range : Bounds) (z : ℤ) → holds range z ≡ true → holds b z ≡ true → StateAppends x (number_under (variant_of x.codec) b.low b.high z) y →
    Presents x (Schema.number b false range) (whole z) y
presents_within x y b range z h k w = wrote_same x y _ _ (number_canon (variant_of x.codec) b false range z true h k) w

pub presents_marked : (x m y : WriterState) (b range : Bounds) (z : ℤ) → holds range z ≡ true → holds b z ≡ true → StateAppends x (just (false ∷ [])) m →
    StateAppends m (number_under (variant_of m.codec) b.low b.high z) y → Presents x (Schema.number b true range) (whole z) y
presents_marked x m y b range z h k v w =
    wrote_same x y _ _ (number_canon (variant_of x.codec) b true range z true h k)
    (wrote_then x m y _ _ v (subst (λ c. StateAppends m (number_under (variant_of c) b.low b.high z) y) v.same w))

pub presents_outside : (x m y : WriterState) (b range : Bounds) (z : ℤ) → holds range z ≡ true → holds b z ≡ false → StateAppends x (just (true ∷ [])) m →
    StateAppends m (counted_octets (variant_of m.codec) (whole_bits z)) y → Presents x (Schema.number b true range) (whole z) y
presents_outside x m y b range z h k v w =
    wrote_same x y _ _ (number_canon (variant_of x.codec) b true range z false h k)
    (wrote_then x m y _ _ v (subst (λ c. StateAppends m (counted_octets (variant_of c) (whole_bits z)) y) v.same w))

past_none : (a : Variant) (b : Bounds) (mark : Bool) (range : Bounds) (z : ℤ) → holds range z ≡ true → IsPast b z → (p : ℕ) → canon a (Schema.number b mark range) (whole z) p ≡ None
past_none a b false range z h k p = sym (number_canon a b false range z true h k.in_bounds p) ∙ under_past a b.low b.high z k.bound k.past p
past_none a b true range z h k p =
    sym (number_canon a b true range z true h k.in_bounds p) ∙ ap (join (false ∷ [])) (under_past a b.low b.high z k.bound k.past (after p (false ∷ [])))

refuses_past : (e : EncodeError) (x m : WriterState) (b : Bounds) (mark : Bool) (range : Bounds) (z : ℤ) → m.codec ≡ x.codec → holds range z ≡ true → IsError IntegerTypeConversionFailed e m → IsPast b z →
    RefusesValue e x (Schema.number b mark range) (whole z)
refuses_past e x m b mark range z c h i k = record {
  none = λ f p. past_none (variant_of x.codec) b mark range z h k p;
  stands = subst (λ k. Stands k x (Schema.number b mark range) (whole z)) (sym i.kind_is) (at_once k);
  codec_is = i.codec_is ∙ c;
}

-- out of bounds, without a mark
pub refuses_outside : (e : EncodeError) (x : WriterState) (b range : Bounds) (z : ℤ) (told : OutOfBounds) → holds range z ≡ true → IsError (ValueConstraintNotSatisfied told) e x → Outside b z (value_of told) (lower_of told) (upper_of told) →
    RefusesValue e x (Schema.number b false range) (whole z)
refuses_outside e x b range z told h i k = record {
  none = λ f p. sym (number_canon (variant_of x.codec) b false range z false h k.out_of_bounds p);
  stands = subst (λ k. Stands k x (Schema.number b false range) (whole z)) (sym i.kind_is) (at_once k);
  codec_is = i.codec_is;
}

-- within bounds, or past an i128 or memory
pub within_law : (x m y : WriterState) (b : Bounds) (mark : Bool) (range : Bounds) (z : ℤ) (result : Result (Unit {0}) EncodeError) → m.codec ≡ x.codec → holds range z ≡ true →
    OnOk result (Presents x (Schema.number b mark range) (whole z) y) → IfErr result (λ e. IsMemory e m ⊎ (IsError IntegerTypeConversionFailed e m × IsPast b z)) →
    Written encoder_rules (Schema.number b mark range) (whole z) x result y
within_law x m y b mark range z (Ok u) c h w k = w
within_law x m y b mark range z (Err e) c h w (inl i) = inl (record { kind_is = i.kind_is; codec_is = i.codec_is ∙ c })
within_law x m y b mark range z (Err e) c h w (inr i) = inr (refuses_past e x m b mark range z c h i.0 i.1)

-- outside, or memory
pub outside_law : (x m y : WriterState) (b : Bounds) (mark : Bool) (range : Bounds) (z : ℤ) (result : Result (Unit {0}) EncodeError) → m.codec ≡ x.codec →
    OnOk result (Presents x (Schema.number b mark range) (whole z) y) → IfErr result (λ e. IsMemory e m) →
    Written encoder_rules (Schema.number b mark range) (whole z) x result y
outside_law x m y b mark range z (Ok u) c w k = w
outside_law x m y b mark range z (Err e) c w i = inl (record { kind_is = i.kind_is; codec_is = i.codec_is ∙ c })
