use Rattle.std.proofs.Common.{◌≡◌, refl, sym, ◌∙◌, lit<, ◌-◌, ◌+◌, ◌<◌, List, ℕ, [], ◌∷◌, ◌++◌, length, cond, eqb, replicate, Bool, true, false, arith, Option, Some, None}
use Rattle.rasn_types.specs.Alphabets.{index_of, keep_own, more, from_to}
use Rattle.rasn_types.specs.Values.{Value}
use Rattle.per_core.specs.Spellings.{Then, BitField, exactly}
use Rattle.per_core.specs.Basic.{basic, basic_in, IsConstrainedWhole, Char, OneByOne, PaddingIf, length_form}
use Rattle.per_core.specs.Counts.{char_items}
use Rattle.per_core.specs.Canon.{canon}
use Rattle.per_core.proofs.SpellingsAgree.{Agree, weaken, then_agree, field_agree, exactly_agree, fronts}
use Rattle.per_core.proofs.WriterSpellings.{just_within, then_within, field_within}
use Rattle.per_rows.specs.Build.{uper}
use Rattle.per_rows.specs.Samples.{a_to_e}
use Rattle.per_rows.proofs.Reading.{filled, not_both, first}
use Rattle.per_rows.proofs.refusals.uper_code_without_a_character_is_refused.Goals as goal

-- a place in a list is below its length
index_below : (c : ℕ) (cs : List ℕ) (i : ℕ) → index_of c cs ≡ Some i → i < length cs
index_below c [] i e = absurd (cc)
index_below c (d ∷ ds) i e = here (eqb c d) (index_of c ds) (index_below c ds) e
  where
    here : (b : Bool) (o : Option ℕ) → ((j : ℕ) → o ≡ Some j → j < length ds) → cond b (Some 0) (more o) ≡ Some i → i < length (d ∷ ds)
    here true o h e = let z : 0 ≡ i = cc in omega (arith, z)
    here false None h e = absurd (cc)
    here false (Some j) h e = let z : 1 + j ≡ i = cc in let k : j < length ds = h j refl in omega (arith, z, k)

-- so no character has the code 7
no_code : (c : ℕ) (o : Option ℕ) → ((i : ℕ) → o ≡ Some i → i < 5) → (i : ℕ) → keep_own false c o ≡ Some i → i ≡ 7 → ⊥
no_code c None h i e k = cc
no_code c (Some j) h i e k = let z : j ≡ i = cc in let l : j < 5 = h j refl in omega (arith, z, l, k)

no_char : (c : ℕ) → Agree ⊥ (Char uper (from_to 5 65) c) (BitField 3 7)
unfolding canon
no_char c = record {
  agree = λ p b d s t x y e.
      let r = (field_agree 3 x.index 7).agree p b d s t x.spelled y e in absurd (no_code c (index_of c (from_to 5 65)) (index_below c (from_to 5 65)) x.index x.is r.0);
}

no_row : (cs : List ℕ) → length cs - 1 ≡ 1 → Agree ⊥ (OneByOne (Char uper (from_to 5 65)) cs) (Then (BitField 3 7) (exactly (replicate 3 false)))
no_row [] l = absurd (omega (arith, l))
no_row (c ∷ cs) l = first (no_char c)

no_padding : (b : Bool) → Agree (Unit {0}) (PaddingIf b uper) (exactly [])
no_padding false = weaken (λ e. tt) (exactly_agree [] [] refl)
no_padding true = record { agree = λ p b c s t x y e. let n : b ≡ [] = fronts b [] s (c ++ t) x.fits (e ∙ refl) in (tt, n ∙ sym y) }

-- five bits of 1 are a count of 2
no_string : (v : Value) → Agree ⊥ (basic uper a_to_e v) (Then (BitField 5 1) (Then (exactly []) (Then (BitField 3 7) (exactly (replicate 3 false)))))
unfolding basic_in canon
no_string v = record { agree = λ p b c s t x y e. (row x.of).agree p b c s t x.spelled.spelled y e }
  where
    counted : (n : ℕ) → Agree (n ≡ 1) (IsConstrainedWhole uper 20 n) (BitField 5 1)
    counted n = record { agree = λ p b c s t x y e. (field_agree 5 n 1).agree p b c s t x.spelled y e }

    row : (cs : List ℕ) → Agree ⊥ (length_form uper (Some 1) (Some 20) (char_items 3) (Char uper (from_to 5 65)) cs) (Then (BitField 5 1) (Then (exactly []) (Then (BitField 3 7) (exactly (replicate 3 false)))))
    row cs = weaken (λ r. r.1.1) (then_agree (counted (length cs - 1)) (λ l. then_agree (no_padding _) (λ u. no_row cs l)))

pub returns : goal.returns
unfolding canon
returns c v = not_both uper (0x0f ∷ 0x00 ∷ []) (no_string v)
    (filled uper (then_within (field_within 5 1 (lit< tt)) (then_within (just_within []) (then_within (field_within 3 7 (lit< tt)) (just_within (replicate 3 false))))) 11 (0x0f ∷ 0x00 ∷ []) refl (lit< tt) (lit< tt) tt)
