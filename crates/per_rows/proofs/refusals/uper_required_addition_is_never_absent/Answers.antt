use Rattle.std.proofs.Common.{◌≡◌, refl, subst, lit<, ℕ, ◌++◌, [], ◌∷◌, List, drop, Option, true, false, Bool, inl, inr}
use Rattle.rasn_types.specs.Bits.{Bits, unpack}
use Rattle.rasn_types.specs.Values.{Value}
use Rattle.rasn_schema.specs.Schemas.{required}
use Rattle.per_core.specs.Spellings.{Spelling, Then, exactly}
use Rattle.per_core.specs.Basic.{Rule, Root, IsBitmap, Additions_in, Record_in, basic, basic_in, fills}
use Rattle.per_core.proofs.SpellingsAgree.{Agree, weaken, then_agree, behind}
use Rattle.per_core.proofs.Records.{root_agree, bitmap_agree}
use Rattle.per_core.proofs.WriterSpellings.{just_within, then_within}
use Rattle.per_rows.specs.Build.{uper}
use Rattle.per_rows.specs.Samples.{required_addition}
use Rattle.per_rows.proofs.Reading.{filled, not_both, begins, as_root, few}
use Rattle.per_rows.proofs.refusals.uper_required_addition_is_never_absent.Goals as goal

-- past the bitmap, and at a bit 0
past : (f : Value → Spelling) (rs : List Rule) (xs : List (Option Value)) (p : ℕ) (b : Bits) → Additions_in uper true (record { presence = required; spells = f } ∷ rs) xs [] p b → ⊥
past f rs [] p b x = x
past f rs (s ∷ ss) p b x = x.0

at_zero : (f : Value → Spelling) (rs : List Rule) (xs : List (Option Value)) (bs : List Bool) (p : ℕ) (b : Bits) → Additions_in uper true (record { presence = required; spells = f } ∷ rs) xs (false ∷ bs) p b → ⊥
at_zero f rs [] bs p b x = x
at_zero f rs (s ∷ ss) bs p b x = x.0

abbrev With : List Bool → Bits → Spelling
With bs rest = Then (exactly (true ∷ [])) (Then (Root [] []) (Then (IsBitmap uper bs) (exactly rest)))

none : (f : Value → Spelling) (rs : List Rule) (ss xs : List (Option Value)) (bs : List Bool) (rest : Bits) → Agree ⊥ (Record_in uper true true [] (record { presence = required; spells = f } ∷ rs) ss xs) (With (false ∷ bs) rest)
none f rs ss xs bs rest = record { agree = λ p b c s t x y e. go p b c s t x y e }
  where
    go : (p : ℕ) (b c s t : Bits) → Record_in uper true true [] (record { presence = required; spells = f } ∷ rs) ss xs p b → With (false ∷ bs) rest p c → b ++ s ≡ c ++ t → ⊥ × (b ≡ c)
    go p b c s t (inl x) y e = absurd (past f rs xs _ _ x.is_rest.is_rest)
    go p b c s t (inr x) y e =
        (behind (true ∷ []) (weaken (λ r. r.1.1) (then_agree (root_agree [] [] [] tt ss []) (λ u. then_agree (bitmap_agree uper x.flags (false ∷ bs)) (λ i. record {
          agree = λ p b c s t z w e. absurd (at_zero f rs xs bs p b (subst (λ k. Additions_in uper true (record { presence = required; spells = f } ∷ rs) xs k p b) i z));
        }))))).agree p b c s t x.spelled y e

refuse : (v : Value) (bs : List Bool) (rest : Bits) → Agree ⊥ (basic uper required_addition v) (With (false ∷ bs) rest)
unfolding basic_in
refuse v bs rest = record { agree = λ p b c s t x y e. (none _ _ x.of.0 x.of.1 bs rest).agree p b c s t x.spelled y e }

no_extension : (f : Value → Spelling) (rs : List Rule) (ss xs : List (Option Value)) (front spare rest : Bits) → Record_in uper true true [] (record { presence = required; spells = f } ∷ rs) ss xs 0 front → false ∷ rest ≡ front ++ spare → ⊥
no_extension f rs ss xs front spare rest (inl x) e = past f rs xs _ _ x.is_rest.is_rest
no_extension f rs ss xs front spare rest (inr x) e = let r = begins spare x.spelled e in let f : false ∷ rest ≡ true ∷ r.0 = r.1 in cc

nothing_read : (f : Value → Spelling) (rs : List Rule) (ss xs : List (Option Value)) → Record_in uper true true [] (record { presence = required; spells = f } ∷ rs) ss xs 0 [] → ⊥
nothing_read f rs ss xs (inl x) = past f rs xs _ _ x.is_rest.is_rest
nothing_read f rs ss xs (inr x) = let r = begins [] x.spelled refl in let f : [] ≡ true ∷ r.0 = r.1 in cc

no_octet : (v : Value) → fills uper required_addition v (0x00 ∷ []) → ⊥
unfolding basic_in
no_octet v (inl x) = no_extension _ _ x.spelled.of.0 x.spelled.of.1 x.front x.spare _ x.spelled.spelled x.all
no_octet v (inr x) = nothing_read _ _ x.0.of.0 x.0.of.1 x.0.spelled

pub returns-clause-no_additions : goal.returns-clause-no_additions
returns-clause-no_additions c v = no_octet v

pub returns-clause-no_bit : goal.returns-clause-no_bit
returns-clause-no_bit c v = not_both uper (0x80 ∷ 0x00 ∷ []) (refuse v [] [])
    (filled uper (then_within (just_within (true ∷ [])) (then_within (as_root [] [] [] (just_within []) (just_within [])) (then_within (few uper (false ∷ []) (lit< tt) (lit< tt)) (just_within [])))) 9 (0x80 ∷ 0x00 ∷ []) refl (lit< tt) (lit< tt) tt)

pub returns-clause-zero_bit : goal.returns-clause-zero_bit
returns-clause-zero_bit c v =
    let rest = drop 2 (unpack (0x40 ∷ 0x60 ∷ 0x00 ∷ [])) in
    not_both uper (0x81 ∷ 0x40 ∷ 0x60 ∷ 0x00 ∷ []) (refuse v (true ∷ []) rest)
    (filled uper (then_within (just_within (true ∷ [])) (then_within (as_root [] [] [] (just_within []) (just_within [])) (then_within (few uper (false ∷ true ∷ []) (lit< tt) (lit< tt)) (just_within rest))))
    32 (0x81 ∷ 0x40 ∷ 0x60 ∷ 0x00 ∷ []) refl (lit< tt) (lit< tt) tt)
