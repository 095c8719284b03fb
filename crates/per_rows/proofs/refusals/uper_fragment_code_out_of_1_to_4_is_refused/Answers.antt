use Rattle.std.proofs.Common.{◌≡◌, refl, sym, ap, ◌∙◌, lit<, ℕ, zero, suc, ◌+◌, ◌<◌, List, [], ◌∷◌, ◌++◌, length, true, false, arith, inl, inr}
use Rattle.rasn_types.specs.Bits.{Bits, to_bits, number_of}
use Rattle.rasn_types.specs.Values.{Value}
use Rattle.rasn_types.proofs.Bits.{to_bits-number}
use Rattle.rasn_constraints.specs.Bounds.{any_size}
use Rattle.per_core.specs.Spellings.{Then, BitField, AnyPadding, exactly}
use Rattle.per_core.specs.Basic.{Fills, fills, basic, basic_in, LastCount, Fragment, InFragments, octet}
use Rattle.per_core.proofs.SpellingsAgree.{Agree, weaken, then_agree, padding_agree, field_agree}
use Rattle.per_core.proofs.WriterSpellings.{just_within, then_within, field_within, padding_within}
use Rattle.per_rows.specs.Build.{uper, octet_string}
use Rattle.per_rows.proofs.Reading.{filled, not_both, begins, first}
use Rattle.per_rows.proofs.refusals.uper_fragment_code_out_of_1_to_4_is_refused.Goals as goal

-- a count, and a fragment's code, are not the code k
no_count : (n k : ℕ) (bs : Bits) → 128 < k → to_bits 8 k ≡ true ∷ true ∷ bs → Agree ⊥ (LastCount n) (BitField 8 k)
no_count n k bs l i = record { agree = λ p b c s t x y e. go p b c s t x y e }
  where
    go : (p : ℕ) (b c s t : Bits) → LastCount n p b → BitField 8 k p c → b ++ s ≡ c ++ t → ⊥ × (b ≡ c)
    go p b c s t (inl x) y e = let r = (field_agree 8 n k).agree p b c s t x.1 y e in absurd (omega (arith, r.0, x.0))
    go p b c s t (inr x) y e =
        let r = begins s x (sym e) in
        let j : c ≡ true ∷ true ∷ bs = sym (to_bits-number c) ∙ ap (λ (w : ℕ). to_bits w (number_of c)) y.wide ∙ ap (λ (w : ℕ). to_bits 8 w) y.means ∙ i in
        let f : true ∷ false ∷ r.0 ≡ true ∷ true ∷ (bs ++ t) = sym r.1 ∙ ap (λ z. z ++ t) j in cc

no_fragment : (n k : ℕ) → ((j : ℕ) → 0 < j → j < 5 → 192 + j ≡ k → ⊥) → Agree ⊥ (Fragment n) (BitField 8 k)
no_fragment n k h = record {
  agree = λ p b c s t x y e. let r = (field_agree 8 (192 + x.times) k).agree p b c s t x.spelled y e in absurd (h x.times x.some x.few r.0);
}

no_octets : (v : Value) (k : ℕ) (bs : Bits) → 128 < k → to_bits 8 k ≡ true ∷ true ∷ bs → ((j : ℕ) → 0 < j → j < 5 → 192 + j ≡ k → ⊥) →
    Agree ⊥ (basic uper (octet_string any_size) v) (Then (AnyPadding uper) (Then (BitField 8 k) (exactly [])))
unfolding basic_in
no_octets v k bs l i h = record { agree = λ p b c s t x y e. (rows x.spelled.spelled.fragments x.of).agree p b c s t x.spelled.spelled.spelled y e }
  where
    rows : (n : ℕ) (xs : List ℕ) → Agree ⊥ (InFragments uper octet n xs) (Then (AnyPadding uper) (Then (BitField 8 k) (exactly [])))
    rows zero xs = weaken (λ r. r.1) (then_agree (padding_agree uper) (λ u. first (no_count (length xs) k bs l i)))
    rows (suc n) xs = record {
      agree = λ p b c s t x y e.
          (weaken (λ r. r.1) (then_agree (padding_agree uper) (λ u. first (no_fragment (length x.these) k h)))).agree p b c s t x.spelled y e;
    }

refuse : (v : Value) (k : ℕ) (bs : Bits) → 128 < k → to_bits 8 k ≡ true ∷ true ∷ bs → ((j : ℕ) → 0 < j → j < 5 → 192 + j ≡ k → ⊥) →
    Fills uper (Then (AnyPadding uper) (Then (BitField 8 k) (exactly []))) (k ∷ []) → fills uper (octet_string any_size) v (k ∷ []) → ⊥
refuse v k bs l i h w x = not_both uper (k ∷ []) (no_octets v k bs l i h) w x

pub returns-clause-five : goal.returns-clause-five
returns-clause-five c v = refuse v 0xc5 (to_bits 6 5) (lit< tt) refl (λ j a b e. omega (arith, a, b, e))
    (filled uper (then_within (padding_within uper) (then_within (field_within 8 0xc5 (lit< tt)) (just_within []))) 8 (0xc5 ∷ []) refl (lit< tt) (lit< tt) tt)

pub returns-clause-zero : goal.returns-clause-zero
returns-clause-zero c v = refuse v 0xc0 (to_bits 6 0) (lit< tt) refl (λ j a b e. omega (arith, a, b, e))
    (filled uper (then_within (padding_within uper) (then_within (field_within 8 0xc0 (lit< tt)) (just_within []))) 8 (0xc0 ∷ []) refl (lit< tt) (lit< tt) tt)

pub returns-clause-greatest : goal.returns-clause-greatest
returns-clause-greatest c v = refuse v 0xff (to_bits 6 63) (lit< tt) refl (λ j a b e. omega (arith, a, b, e))
    (filled uper (then_within (padding_within uper) (then_within (field_within 8 0xff (lit< tt)) (just_within []))) 8 (0xff ∷ []) refl (lit< tt) (lit< tt) tt)
