use Rattle.std.proofs.Common.{◌≡◌, refl, sym, ap, ◌∙◌, subst, lit<, ℕ, suc, ◌+◌, [], ◌∷◌, true, false, pos, ℤ}
use Rattle.rasn_types.specs.Contents.{is_date}
use Rattle.rasn_types.specs.Values.{Value}
use Rattle.rasn_schema.specs.Schemas.{Schema}
use Rattle.per_core.specs.Spellings.{Then, BitField}
use Rattle.per_core.specs.Basic.{basic, basic_in, IsConstrainedWhole, Year, YearIn, year_form}
use Rattle.per_core.specs.Canon.{canon}
use Rattle.per_core.proofs.SpellingsAgree.{Agree, weaken, then_agree, field_agree}
use Rattle.per_core.proofs.WriterSpellings.{then_within, field_within}
use Rattle.per_rows.specs.Build.{uper}
use Rattle.per_rows.proofs.Reading.{filled, not_both}
use Rattle.per_rows.proofs.refusals.uper_date_that_is_none_is_not_read.Goals as goal

-- 00 and four bits are a year from 2005 on
in_first : (y : ℤ) (n : ℕ) → Agree (y ≡ pos (2005 + n)) (YearIn uper 2005 16 y) (BitField 4 n)
unfolding canon
in_first y n = record {
  agree = λ p b c s t x z e. let r = (field_agree 4 x.past n).agree p b c s t x.spelled.spelled z e in (x.is ∙ ap (λ (k : ℕ). pos (2005 + k)) r.0, r.1);
}

year : (y : ℤ) (n : ℕ) → Agree (y ≡ pos (2005 + n)) (Year uper y) (Then (BitField 2 0) (BitField 4 n))
year y n = record {
  agree = λ p b c s t x z e.
      (weaken (λ r. r.1) (then_agree (field_agree 2 x.range 0) (λ i. subst (λ k. Agree (y ≡ pos (2005 + n)) (year_form uper k y) (BitField 4 n)) (sym i) (in_first y n)))).agree p b c s t x.spelled z e;
}

day_of : (x : ℤ × ℕ × ℕ) (n m d : ℕ) → Agree ((x.0 ≡ pos (2005 + n)) × (x.1 ≡ m) × (x.2 ≡ d)) (Then (Year uper x.0) (Then (IsConstrainedWhole uper 12 x.1) (IsConstrainedWhole uper 31 x.2))) (Then (Then (BitField 2 0) (BitField 4 n)) (Then (BitField 4 m) (BitField 5 d)))
unfolding canon
day_of x n m d = weaken (λ r. (r.0, r.1.0, r.1.1)) (then_agree (year x.0 n) (λ u. then_agree
    (record { agree = λ p b c s t x y e. (field_agree 4 _ m).agree p b c s t x.spelled y e }) (λ u. record { agree = λ p b c s t x y e. (field_agree 5 _ d).agree p b c s t x.spelled y e })))

none : (n m d : ℕ) → is_date (pos (2005 + n)) (suc m) (suc d) ≡ false → (v : Value) → Agree ⊥ (basic uper Schema.date v) (Then (Then (BitField 2 0) (BitField 4 n)) (Then (BitField 4 m) (BitField 5 d)))
unfolding basic_in
none n m d h v = record {
  agree = λ p b c s t x y e.
      let r = (day_of x.of n m d).agree p b c s t x.spelled.spelled y e in
      let i : is_date (pos (2005 + n)) (suc m) (suc d) ≡ true =
      subst (λ z. is_date z (suc m) (suc d) ≡ true) r.0.0 (subst (λ (z : ℕ). is_date x.of.0 (suc z) (suc d) ≡ true) r.0.1 (subst (λ (z : ℕ). is_date x.of.0 (suc x.of.1) (suc z) ≡ true) r.0.2 x.spelled.is_day)) in
      let f : false ≡ true = sym h ∙ i in absurd (cc);
}

pub returns-clause-february : goal.returns-clause-february
returns-clause-february c v = not_both uper (0x14 ∷ 0x7a ∷ []) (none 5 1 29 refl v)
    (filled uper (then_within (then_within (field_within 2 0 (lit< tt)) (field_within 4 5 (lit< tt))) (then_within (field_within 4 1 (lit< tt)) (field_within 5 29 (lit< tt)))) 15 (0x14 ∷ 0x7a ∷ []) refl (lit< tt) (lit< tt) tt)

pub returns-clause-month : goal.returns-clause-month
returns-clause-month c v = not_both uper (0x17 ∷ 0x00 ∷ []) (none 5 12 0 refl v)
    (filled uper (then_within (then_within (field_within 2 0 (lit< tt)) (field_within 4 5 (lit< tt))) (then_within (field_within 4 12 (lit< tt)) (field_within 5 0 (lit< tt)))) 15 (0x17 ∷ 0x00 ∷ []) refl (lit< tt) (lit< tt) tt)
