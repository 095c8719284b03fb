-- Numbers without a lower bound, as they are written.
use Rattle.std.specs.Prelude.{OnOk, Result, Ok, Err}
use Rattle.std.proofs.Common.{◌≡◌, ◌⊎◌, refl, sym, ap, ◌∙◌, subst, ℕ, Bool, true, false, List, length, ◌/◌, Option, Some, None, arith, ℤ, inl, inr, FitsSigned}
use Rattle.std.specs.Int.{w128}
use Rattle.rasn_types.specs.Variants.{variant_of, Variant}
use Rattle.rasn_types.specs.Bits.{octets_of_whole, signed_octets, whole_bits, pack}
use Rattle.rasn_types.proofs.Octets.{length-whole_bits}
use Rattle.rasn_types.proofs.Reading.{fits-is_i128}
use Rattle.rasn_constraints.specs.Bounds.{holds, Bounds}
use Rattle.per_core.specs.Counts.{counted_octets, number_under, unconstrained_octets}
use Rattle.per_core.specs.Writers.{Writer, written_if}
use Rattle.per_pieces.specs.Pieces.{placed_bits}
use Rattle.per_core.specs.declared.encode_error.EncodeError.{EncodeError}
use Rattle.per_write.specs.Numbers.{unconstrained_whole}
use Rattle.per_write.specs.WriterState.{WriterState, StateAppends}

-- X.691 13.2.4: no lower bound
pub under_none : (a : Variant) (u : Option ℤ) (v : ℤ) → (u ≡ None) ⊎ FitsSigned w128 v → (p : ℕ) → counted_octets a (whole_bits v) p ≡ number_under a None u v p
unfolding number_under
under_none a None v h p = refl
under_none a (Some u) v (inl e) p = absurd cc
under_none a (Some u) v (inr f) p = ap (λ (b : Bool). written_if b (counted_octets a (whole_bits v)) p) (sym (fits-is_i128 v f))

-- X.691 13.2.4: the fewest octets of a number after their count
whole_counted : (a : Variant) (z : ℤ) → unconstrained_octets a (signed_octets z) ≡ counted_octets a (whole_bits z)
unfolding counted_octets signed_octets
whole_counted a z = let n : octets_of_whole z ≡ length (whole_bits z) / 8 = omega (arith, length-whole_bits z) in ap (λ (k : ℕ). unconstrained_octets a (pack k (whole_bits z))) n

pub wrote_whole : (x m y : WriterState) (range : Bounds) (z : ℤ) (octets : List ℕ) (result : Result (Unit {0}) EncodeError) → m ≡ x → holds range z ≡ true → octets ≡ signed_octets z →
    OnOk result (StateAppends m (unconstrained_octets (variant_of m.codec) octets) y) → OnOk result (StateAppends x (unconstrained_whole (variant_of x.codec) range z) y)
wrote_whole x m y range z octets result k h o w =
    subst (λ (b : Bool). OnOk result (StateAppends x (written_if b (counted_octets (variant_of x.codec) (whole_bits z))) y)) (sym h)
    (subst (λ (f : Writer). OnOk result (StateAppends x f y)) (ap (unconstrained_octets (variant_of x.codec)) o ∙ whole_counted (variant_of x.codec) z)
    (subst (λ (s : WriterState). OnOk result (StateAppends s (unconstrained_octets (variant_of s.codec) octets) y)) k w))

pub wrote_number : (x y : WriterState) (range : Bounds) (z v : ℤ) (result : Result (Unit {0}) EncodeError) → v ≡ z → holds range z ≡ true →
    OnOk result (StateAppends x (counted_octets (variant_of x.codec) (whole_bits v)) y) → OnOk result (StateAppends x (unconstrained_whole (variant_of x.codec) range z) y)
wrote_number x y range z v result e h w =
    subst (λ (b : Bool). OnOk result (StateAppends x (written_if b (counted_octets (variant_of x.codec) (whole_bits z))) y)) (sym h)
    (subst (λ (u : ℤ). OnOk result (StateAppends x (counted_octets (variant_of x.codec) (whole_bits u)) y)) e w)

-- what was written where a test passes, was written
wrote_tested : (b : Bool) (more : Writer) (x y : WriterState) → StateAppends x (written_if b more) y → StateAppends x more y
wrote_tested true more x y w = w
wrote_tested false more x y w = absurd (let e : Some (placed_bits y.pieces.list 0) ≡ None = w.appended.written 0 (λ t. refl) in cc)

pub whole_written : (x y : WriterState) (range : Bounds) (z : ℤ) (result : Result (Unit {0}) EncodeError) →
    OnOk result (StateAppends x (unconstrained_whole (variant_of x.codec) range z) y) → OnOk result (StateAppends x (counted_octets (variant_of x.codec) (whole_bits z)) y)
whole_written x y range z (Ok u) w = wrote_tested (holds range z) _ x y w
whole_written x y range z (Err e) w = w
