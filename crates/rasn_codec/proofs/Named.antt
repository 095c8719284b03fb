-- Bits that have names, in normal form (X.691 16.2).
use Rattle.std.proofs.Common.{◌≡◌, refl, sym, ap, ◌∙◌, subst, ℕ, zero, suc, ◌-◌, ◌^◌, ◌<◌, Bool, true, false, cond, ltb, lt-ltb, List, [], ◌∷◌, ◌++◌, length, replicate, get_or, append-nil, arith, Option, Some, None}
use mathlib.Core.Bool.{beq}
use Rattle.std.specs.Cmp.Lexicographic.{pointwise}
use Rattle.std.specs.Option.{unwrap_or}
use Rattle.rasn_types.specs.Bits.{filled_up, trimmed}
use Rattle.rasn_types.specs.Values.{bits, same}
use Rattle.rasn_types.proofs.Trimming.{trimmed-split}
use Rattle.rasn_constraints.specs.Bounds.{Size}
use Rattle.rasn_schema.specs.Normal.{normal, normal_bits}
use Rattle.rasn_schema.specs.Schemas.{Schema}
use Rattle.rasn_codec.proofs.SameValues.{same_bits}

-- a bit of zero bits, and of bits with zero bits after them
zero_bit : (n i : ℕ) → get_or (replicate n false) i false ≡ false
zero_bit zero i = refl
zero_bit (suc n) zero = refl
zero_bit (suc n) (suc i) = zero_bit n i

bit_before_zeros : (bs : List Bool) (n i : ℕ) → get_or (bs ++ replicate n false) i false ≡ get_or bs i false
bit_before_zeros [] n i = zero_bit n i
bit_before_zeros (b ∷ bs) n zero = refl
bit_before_zeros (b ∷ bs) n (suc i) = bit_before_zeros bs n i

-- no bit is another without the zero bits at the end, nor with others there
pub filled_bit : (least i : ℕ) (bs : List Bool) → get_or bs i false ≡ get_or (filled_up least (trimmed bs)) i false
filled_bit least i bs =
    let s = trimmed-split bs in
    ap (λ cs. get_or cs i false) s.1 ∙ bit_before_zeros (trimmed bs) s.0 i ∙ sym (bit_before_zeros (trimmed bs) (least - length (trimmed bs)) i)

-- bits up to the least count are those in normal form
normal_form : (l : Option ℕ) (n : ℕ) (bs : List Bool) → n ≡ unwrap_or l 0 → n < 2 ^ 64 → filled_up n (trimmed bs) ≡ normal_bits l bs
normal_form None n bs e h =
    let z : n - length (trimmed bs) ≡ 0 = omega arith in
    ap (λ (m : ℕ). trimmed bs ++ replicate m false) z ∙ append-nil (trimmed bs)
normal_form (Some l) n bs e h =
    let s : ltb l (2 ^ 64) ≡ true = lt-ltb l (2 ^ 64) (subst (λ (m : ℕ). m < 2 ^ 64) e h) in
    ap (λ (m : ℕ). filled_up m (trimmed bs)) e ∙ sym (ap (λ b. cond b (filled_up l (trimmed bs)) (trimmed bs)) s)

pub same_named : (size : Size) (mark b : Bool) (n : ℕ) (own bs ds : List Bool) → b ≡ pointwise beq (filled_up n (trimmed own)) ds → own ≡ bs
    → n ≡ unwrap_or size.least 0 → n < 2 ^ 64 → b ≡ same (normal (Schema.bit_string size mark true) (bits bs)) (bits ds)
unfolding normal
same_named size mark b n own bs ds h o e l =
    h ∙ ap (λ (cs : List Bool). pointwise beq (filled_up n (trimmed cs)) ds) o ∙ ap (λ (cs : List Bool). pointwise beq cs ds) (normal_form size.least n bs e l)
    ∙ same_bits ds (normal_bits size.least bs)
