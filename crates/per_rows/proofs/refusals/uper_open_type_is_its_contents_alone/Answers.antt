use Rattle.std.proofs.Common.{◌≡◌, refl, ap, sym, ◌∙◌, subst, length-append, lit<, ℕ, List, [], ◌∷◌, ◌++◌, length, replicate, true, false, Option, Some, None, arith, inl, inr}
use Rattle.rasn_types.specs.Bits.{Bits}
use Rattle.rasn_types.specs.Values.{Value, truth}
use Rattle.rasn_schema.specs.Schemas.{Schema, Parts, optional, group}
use Rattle.per_core.specs.Spellings.{Settings, Spelling, Then, exactly}
use Rattle.per_core.specs.Basic.{Root, IsBitmap, Record_in, Additions_in, Octets, basic, basic_in, rules, fills}
use Rattle.per_core.specs.Canon.{bytes, canon}
use Rattle.per_core.proofs.SpellingsAgree.{Agree, weaken, then_agree, behind, cancel, no_yes}
use Rattle.per_core.proofs.LengthForms.{same_octets}
use Rattle.per_core.proofs.Records.{root_agree, bitmap_agree}
use Rattle.per_core.proofs.Readings.{sames, same_kin, one_reading}
use Rattle.per_core.proofs.Canonical.{canonical}
use Rattle.per_core.proofs.Presenting.{octets_within}
use Rattle.per_core.proofs.WriterSpellings.{just_within, then_within, when_within}
use Rattle.per_rows.specs.Build.{uper, zero_padded, numbered, all_required, sequence_with, record_with}
use Rattle.per_rows.specs.Samples.{with_group}
use Rattle.per_rows.proofs.Reading.{filled, not_both, first, either_one, as_root, in_place, few, no_more}
use Rattle.per_rows.proofs.refusals.uper_open_type_is_its_contents_alone.Goals as goal

abbrev parts : Parts
parts = numbered 0 (all_required (Schema.boolean ∷ []))

abbrev the_group : Schema
the_group = sequence_with ((optional, Schema.boolean) ∷ [])

abbrev Front : Settings → List ℕ → Spelling
Front a os = Then (exactly (true ∷ [])) (Then (Root (rules a parts) (Some (truth true) ∷ [])) (Then (IsBitmap a (true ∷ [])) (Then (Octets a os) (exactly []))))

-- octets that are no group
module _ (a : Settings) (os : List ℕ) (h : (v : Value) → fills a the_group v os → ⊥) where
  opened : (xs : List (Option Value)) → Agree ⊥ (Additions_in a true (record { presence = group; spells = basic a the_group } ∷ []) xs (true ∷ [])) (Then (Octets a os) (exactly []))
  opened [] = record { agree = λ p b c s t x y e. absurd x }
  opened (o ∷ xs) = record {
    agree = λ p b c s t x y e.
        let held : Agree ⊥ _ (Octets a os) = record {
          agree = λ p b c s t x y e.
              let r = (same_octets a x.spelled.octets os).agree p b c s t x.spelled.spelled y e in
              absurd (h x.held (subst (λ k. fills a the_group x.held k) r.0 x.spelled.are));
        } in
        (first held).agree p b c s t x y e;
  }

  none : (ss xs : List (Option Value)) → Agree ⊥ (Record_in a true true (rules a parts) (record { presence = group; spells = basic a the_group } ∷ []) ss xs) (Front a os)
  none ss xs = either_one (no_yes _ _) (record {
    agree = λ p b c s t x y e.
        (behind (true ∷ []) (weaken (λ r. r.1.1) (then_agree (root_agree (sames parts) (rules a parts) (rules a parts) (same_kin a parts) ss (Some (truth true) ∷ []))
        (λ u. then_agree (bitmap_agree a x.flags (true ∷ []))
        (λ i. record { agree = λ p b c s t z w e. (opened xs).agree p b c s t (subst (λ k. Additions_in a true (record { presence = group; spells = basic a the_group } ∷ []) xs k p b) i z) w e }))))).agree p b c s t x.spelled y e;
  })

  refuse : (v : Value) → Agree ⊥ (basic a with_group v) (Front a os)
  unfolding basic_in
  refuse v = record { agree = λ p b c s t x y e. (none x.of.0 x.of.1).agree p b c s t x.spelled y e }

pub returns-clause-two_octets : goal.returns-clause-two_octets
unfolding basic_in bytes
returns-clause-two_octets c v = not_both uper (0xc0 ∷ 0x40 ∷ 0x80 ∷ 0x00 ∷ 0x00 ∷ [])
    (refuse uper (0 ∷ 0 ∷ []) (λ w x. no_more uper the_group (record_with (None ∷ [])) w (0 ∷ []) 0 [] refl x) v)
    (filled uper (then_within (just_within (true ∷ [])) (then_within (as_root (rules uper parts) (Some (truth true) ∷ []) (true ∷ []) (then_within (when_within refl (just_within [])) (just_within [])) (then_within (in_place uper Schema.boolean (truth true)) (just_within [])))
    (then_within (few uper (true ∷ []) (lit< tt) (lit< tt)) (then_within (octets_within uper (0 ∷ 0 ∷ [])) (just_within []))))) 34 (0xc0 ∷ 0x40 ∷ 0x80 ∷ 0x00 ∷ 0x00 ∷ []) refl (lit< tt) (lit< tt) tt)

no_contents : (v : Value) → fills uper the_group v [] → ⊥
no_contents v (inl x) = omega (arith, ap length x.all, length-append x.front x.spare, x.some)
no_contents v (inr x) = let e : ◌≡◌ {A = List ℕ} [] (0 ∷ []) = x.1 in cc

pub returns-clause-no_octets : goal.returns-clause-no_octets
unfolding basic_in canon
returns-clause-no_octets c v = not_both uper (0xc0 ∷ 0x40 ∷ 0x00 ∷ []) (refuse uper [] no_contents v)
    (filled uper (then_within (just_within (true ∷ [])) (then_within (as_root (rules uper parts) (Some (truth true) ∷ []) (true ∷ []) (then_within (when_within refl (just_within [])) (just_within [])) (then_within (in_place uper Schema.boolean (truth true)) (just_within [])))
    (then_within (few uper (true ∷ []) (lit< tt) (lit< tt)) (then_within (octets_within uper []) (just_within []))))) 18 (0xc0 ∷ 0x40 ∷ 0x00 ∷ []) refl (lit< tt) (lit< tt) tt)

-- one bit of the group, and a one among the spare bits
no_spare : (v : Value) → fills (zero_padded uper) the_group v (0x02 ∷ []) → ⊥
unfolding canon
no_spare v (inl x) =
    let w = (canonical (zero_padded uper) true the_group (record_with (None ∷ []))).within 0 (false ∷ []) refl in
    let rest = replicate 5 false ++ true ∷ false ∷ [] in
    let r = (one_reading (zero_padded uper) the_group v (record_with (None ∷ []))).agree 0 x.front (false ∷ []) x.spare rest x.spelled w (sym x.all) in
    let spare : rest ≡ x.spare = cancel (false ∷ []) rest x.spare (x.all ∙ ap (λ z. z ++ x.spare) r.1) in
    let zeros : rest ≡ replicate 7 false = subst (λ (z : Bits). z ≡ replicate (length z) false) (sym spare) x.zeros in cc
no_spare v (inr x) = cc

pub returns-clause-spare_bit : goal.returns-clause-spare_bit
unfolding basic_in canon
returns-clause-spare_bit c v =
    let a = zero_padded uper in
    not_both a (0xc0 ∷ 0x40 ∷ 0x40 ∷ 0x80 ∷ []) (refuse a (0x02 ∷ []) no_spare v)
    (filled a (then_within (just_within (true ∷ [])) (then_within (as_root (rules a parts) (Some (truth true) ∷ []) (true ∷ []) (then_within (when_within refl (just_within [])) (just_within [])) (then_within (in_place a Schema.boolean (truth true)) (just_within [])))
    (then_within (few a (true ∷ []) (lit< tt) (lit< tt)) (then_within (octets_within a (0x02 ∷ [])) (just_within []))))) 26 (0xc0 ∷ 0x40 ∷ 0x40 ∷ 0x80 ∷ []) refl (lit< tt) (lit< tt) refl)
