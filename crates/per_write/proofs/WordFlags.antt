-- Bits that are gathered in a word.
use mir.Val.{bool_byte}
use Rattle.std.specs.Prelude.{not, nat_eq}
use Rattle.std.proofs.Common.{◌≡◌, refl, sym, ap, ap₂, ◌∙◌, subst, ℕ, zero, suc, ◌^◌, ◌<◌, ◌*◌, ◌%◌, ◌+◌, Bool, true, false, [], ◌∷◌, ◌++◌, length, arith, pow_pos, mod-eq_of_lt, bit_or}
use Rattle.std.proofs.Math.Dec.{eqb-suc-zero}
use Rattle.rasn_types.specs.Bits.{Bits, number_of, to_bits}
use Rattle.rasn_types.proofs.Bits.{number-to_bits}
use Rattle.per_bits.proofs.Sets.{bit_below, bit_is}
use Rattle.per_core.specs.Canon.{any_set}
use Rattle.per_write.proofs.Fields.{field_more}

none_set : (bs : Bits) → number_of bs ≡ 0 → any_set bs ≡ false
none_set [] h = refl
none_set (false ∷ bs) h = none_set bs (omega arith)
none_set (true ∷ bs) h = absurd (omega (arith, pow_pos (length bs)))

some_set : (bs : Bits) → 0 < number_of bs → any_set bs ≡ true
some_set [] h = absurd (omega arith)
some_set (false ∷ bs) h = some_set bs (omega arith)
some_set (true ∷ bs) h = refl

-- the bits of a number that they hold: of 0 none is 1
pub none_in_word : (w n : ℕ) → n ≡ 0 → any_set (to_bits w n) ≡ false
none_in_word w n h = none_set (to_bits w n) (number-to_bits w n ∙ mod-eq_of_lt (omega (arith, pow_pos w)) ∙ h)

pub one_in_word : (w n : ℕ) → n < 2 ^ w → 0 < n → any_set (to_bits w n) ≡ true
one_in_word w n l h = some_set (to_bits w n) (subst (λ (m : ℕ). 0 < m) (sym (number-to_bits w n ∙ mod-eq_of_lt l)) h)

-- a word of 0 holds no 1
pub has_one_in_word : (w n : ℕ) (bs : Bits) → n < 2 ^ w → bs ≡ to_bits w n → not (nat_eq n 0) ≡ any_set bs
has_one_in_word w zero bs l e = sym (ap any_set e ∙ none_in_word w zero refl)
has_one_in_word w (suc n) bs l e = ap not (eqb-suc-zero n) ∙ sym (ap any_set e ∙ one_in_word w (suc n) l (omega arith))

-- a bit more at the end of a word
pub bit_more : (w n more new : ℕ) (b : Bool) (bs : Bits) → n < 2 ^ w → w < 64 → bs ≡ to_bits w n → more ≡ bool_byte b → new ≡ bit_or (n * 2 % 2 ^ 64) more → (new < 2 ^ (w + 1)) × (to_bits (w + 1) new ≡ bs ++ b ∷ [])
bit_more w n more new b bs l h e m k =
    let both = field_more n w more 1 new more l (bit_below b m) (omega arith) refl k in
    (both.0, both.1 ∙ ap₂ (λ (cs ds : Bits). cs ++ ds) (sym e) (bit_is b m))
