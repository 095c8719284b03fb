use Rattle.std.proofs.Common.{◌≡◌, refl, ap, lit<, [], ◌∷◌, List, length, Option, Some, true, false, Bool, arith}
use Rattle.rasn_types.specs.Values.{Value, truth}
use Rattle.rasn_constraints.specs.Bounds.{any_size}
use Rattle.rasn_schema.specs.Schemas.{Schema, Parts}
use Rattle.per_core.specs.Spellings.{Settings, Spelling, Then, exactly}
use Rattle.per_core.specs.Writers.{just}
use Rattle.per_core.specs.Counts.{bit_items}
use Rattle.per_core.specs.Basic.{Rule, Root, IsBitmap, Record_in, Sized, bit, basic, basic_in, rules}
use Rattle.per_core.specs.Canon.{canon}
use Rattle.per_core.proofs.SpellingsAgree.{Agree, weaken, then_agree, behind, no_yes}
use Rattle.per_core.proofs.Counting.{counted_within}
use Rattle.per_core.proofs.LengthForms.{sized_agree, Zip-same}
use Rattle.per_core.proofs.Records.{root_agree}
use Rattle.per_core.proofs.Readings.{sames, same_kin, same_bits}
use Rattle.per_core.proofs.WriterSpellings.{just_within, then_within, when_within}
use Rattle.per_rows.specs.Build.{uper, aper, numbered, all_required}
use Rattle.per_rows.specs.Samples.{with_group}
use Rattle.per_rows.proofs.Reading.{filled, not_both, first, either_one, as_root, in_place}
use Rattle.per_rows.proofs.refusals.empty_bitmap_is_refused.Goals as goal

abbrev parts : Parts
parts = numbered 0 (all_required (Schema.boolean ∷ []))

-- the large form of a bitmap of no bits
abbrev Empty : Settings → Spelling
Empty a = Then (exactly (true ∷ [])) (Sized a any_size bit_items bit [])

no_bitmap : (a : Settings) (bs : List Bool) → Agree ⊥ (IsBitmap a bs) (Empty a)
no_bitmap a bs = record {
  agree = λ p b c s t x y e.
      let r = (either_one (no_yes _ _) (behind (true ∷ []) (weaken (Zip-same bs []) (sized_agree (λ x y. x ≡ y) bit bit same_bits a any_size bit_items bs [])))).agree p b c s t x.spelled y e in
      absurd (omega (arith, x.some, ap length r.0));
}

abbrev Front : Settings → Spelling
Front a = Then (exactly (true ∷ [])) (Then (Root (rules a parts) (Some (truth true) ∷ [])) (Then (Empty a) (exactly [])))

none : (a : Settings) (adds : List Rule) (ss xs : List (Option Value)) → Agree ⊥ (Record_in a true true (rules a parts) adds ss xs) (Front a)
none a adds ss xs = either_one (no_yes _ _) (record {
  agree = λ p b c s t x y e.
      (behind (true ∷ []) (weaken (λ r. r.1) (then_agree (root_agree (sames parts) (rules a parts) (rules a parts) (same_kin a parts) ss (Some (truth true) ∷ [])) (λ u. first (no_bitmap a x.flags))))).agree p b c s t x.spelled y e;
})

refuse : (a : Settings) (v : Value) → Agree ⊥ (basic a with_group v) (Front a)
unfolding basic_in
refuse a v = record { agree = λ p b c s t x y e. (none a _ x.of.0 x.of.1).agree p b c s t x.spelled y e }

pub returns-clause-in_uper : goal.returns-clause-in_uper
unfolding basic_in canon
returns-clause-in_uper c v = not_both uper (0xe0 ∷ 0x00 ∷ []) (refuse uper v)
    (filled uper (then_within (just_within (true ∷ [])) (then_within (as_root (rules uper parts) (Some (truth true) ∷ []) (true ∷ []) (then_within (when_within refl (just_within [])) (just_within [])) (then_within (in_place uper Schema.boolean (truth true)) (just_within [])))
    (then_within (then_within (just_within (true ∷ [])) (counted_within (λ b. just (b ∷ [])) bit (λ b. just_within (b ∷ [])) uper any_size false bit_items [])) (just_within []))))
    11 (0xe0 ∷ 0x00 ∷ []) refl (lit< tt) (lit< tt) tt)

pub returns-clause-in_aper : goal.returns-clause-in_aper
unfolding basic_in canon
returns-clause-in_aper c v = not_both aper (0xe0 ∷ 0x00 ∷ []) (refuse aper v)
    (filled aper (then_within (just_within (true ∷ [])) (then_within (as_root (rules aper parts) (Some (truth true) ∷ []) (true ∷ []) (then_within (when_within refl (just_within [])) (just_within [])) (then_within (in_place aper Schema.boolean (truth true)) (just_within [])))
    (then_within (then_within (just_within (true ∷ [])) (counted_within (λ b. just (b ∷ [])) bit (λ b. just_within (b ∷ [])) aper any_size false bit_items [])) (just_within []))))
    16 (0xe0 ∷ 0x00 ∷ []) refl (lit< tt) (lit< tt) tt)
