-- Bits that have names, in normal form (X.691 16.2).
use Rattle.std.proofs.Common.{◌≡◌, refl, sym, ap, ◌∙◌, subst, ℕ, ◌-◌, ◌^◌, ◌<◌, Bool, true, false, cond, ltb, lt-ltb, ◌++◌, length, replicate, append-nil, arith, Option, Some, None}
use Rattle.std.specs.Prelude.{OnOk, IfErr, Result}
use Rattle.std.specs.Option.{unwrap_or}
use Rattle.rasn_types.specs.Bits.{Bits, filled_up, trimmed}
use Rattle.rasn_types.specs.Variants.{variant_of}
use Rattle.rasn_types.specs.Values.{bits}
use Rattle.rasn_constraints.specs.Bounds.{Size}
use Rattle.rasn_schema.specs.Normal.{normal, normal_bits}
use Rattle.rasn_schema.specs.Schemas.{Schema}
use Rattle.rasn_traits.specs.Calls.{Written}
use Rattle.per_core.specs.Counts.{bit_items, bit_writers, counted}
use Rattle.per_write.specs.Rules.{encoder_rules}
use Rattle.per_write.specs.Items.{RefusesCounted}
use Rattle.per_write.specs.WriterState.{WriterState, StateAppends}
use Rattle.per_core.specs.declared.encode_error.EncodeError.{EncodeError}
use Rattle.per_write.proofs.Refusing.{bit_string_law}

-- bits up to the least count are those in normal form
normal_form : (l : Option ℕ) (n : ℕ) (bs : Bits) → n ≡ unwrap_or l 0 → n < 2 ^ 64 → filled_up n (trimmed bs) ≡ normal_bits l bs
normal_form None n bs e h =
    let z : n - length (trimmed bs) ≡ 0 = omega arith in
    ap (λ (m : ℕ). trimmed bs ++ replicate m false) z ∙ append-nil (trimmed bs)
normal_form (Some l) n bs e h =
    let s : ltb l (2 ^ 64) ≡ true = lt-ltb l (2 ^ 64) (subst (λ (m : ℕ). m < 2 ^ 64) e h) in
    ap (λ (m : ℕ). filled_up m (trimmed bs)) e ∙ sym (ap (λ b. cond b (filled_up l (trimmed bs)) (trimmed bs)) s)

normal_is : (size : Size) (mark : Bool) (bs : Bits) → normal (Schema.bit_string size mark true) (bits bs) ≡ bits (normal_bits size.least bs)
unfolding normal
normal_is size mark bs = refl

-- what is written of bits that have names, where the bits in normal form are written or refused
pub named_law : (x y : WriterState) (size : Size) (mark : Bool) (n : ℕ) (bs cs : Bits) (result : Result (Unit {0}) EncodeError) → n ≡ unwrap_or size.least 0 → n < 2 ^ 64 → cs ≡ filled_up n (trimmed bs) →
    OnOk result (StateAppends x (counted (variant_of x.codec) size mark bit_items (bit_writers cs)) y) → IfErr result (λ e. RefusesCounted size mark (λ k. ⊥) (bit_writers cs) e x) →
    Written encoder_rules (Schema.bit_string size mark true) (normal (Schema.bit_string size mark true) (bits bs)) x result y
named_law x y size mark n bs cs result e h i w r =
    let k : normal (Schema.bit_string size mark true) (bits bs) ≡ bits cs = normal_is size mark bs ∙ ap bits (sym (i ∙ normal_form size.least n bs e h)) in
    subst (λ v. Written encoder_rules (Schema.bit_string size mark true) v x result y) (sym k) (bit_string_law x y size mark true cs result w r)

-- the same, where the state between is the one before
pub named_put : (x z y : WriterState) (size : Size) (mark : Bool) (n : ℕ) (bs cs : Bits) (result : Result (Unit {0}) EncodeError) → z ≡ x → n ≡ unwrap_or size.least 0 → n < 2 ^ 64 → cs ≡ filled_up n (trimmed bs) →
    OnOk result (StateAppends z (counted (variant_of z.codec) size mark bit_items (bit_writers cs)) y) → IfErr result (λ e. RefusesCounted size mark (λ k. ⊥) (bit_writers cs) e z) →
    Written encoder_rules (Schema.bit_string size mark true) (normal (Schema.bit_string size mark true) (bits bs)) x result y
named_put x z y size mark n bs cs result k e h i w r =
    named_law x y size mark n bs cs result e h i
    (subst (λ (s : WriterState). OnOk result (StateAppends s (counted (variant_of s.codec) size mark bit_items (bit_writers cs)) y)) k w)
    (subst (λ (s : WriterState). IfErr result (λ e. RefusesCounted size mark (λ k. ⊥) (bit_writers cs) e s)) k r)
