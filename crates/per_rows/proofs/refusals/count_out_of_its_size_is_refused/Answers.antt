use Rattle.std.proofs.Common.{◌≡◌, refl, subst, lit<, ◌-◌, ◌^◌, leb, ltb, List, ℕ, [], ◌∷◌, length, replicate, true, false, arith}
use Rattle.rasn_types.specs.Alphabets.{visible}
use Rattle.rasn_types.specs.Values.{Value}
use Rattle.rasn_schema.specs.Schemas.{Schema}
use Rattle.per_core.specs.Spellings.{Settings, Spelling, Then, BitField, AnyPadding, exactly}
use Rattle.per_core.specs.Basic.{basic, basic_in, constrained_form, IsConstrainedWhole, Octets}
use Rattle.per_core.specs.Canon.{canon}
use Rattle.per_core.proofs.SpellingsAgree.{Agree, field_agree}
use Rattle.per_core.proofs.LengthForms.{and_left, and_right, padded_field_agree, same_octets}
use Rattle.per_core.proofs.Presenting.{octets_within}
use Rattle.per_core.proofs.WriterSpellings.{just_within, then_within, field_within, padding_within}
use Rattle.per_rows.specs.Build.{uper, aper, list_of, octet_string, sized, sized_to}
use Rattle.per_rows.proofs.Reading.{filled, not_both, first}
use Rattle.per_rows.proofs.refusals.count_out_of_its_size_is_refused.Goals as goal

-- the code of 300 is none of 300 counts
no_count : (a : Settings) (g : Spelling) → ((n : ℕ) → Agree (n ≡ 300) (constrained_form a 300 n) g) → (v : Value) → Agree ⊥ (basic a (list_of Schema.null (sized 1 300)) v) (Then g (exactly []))
unfolding basic_in
no_count a g h v = record { agree = λ p b c s t x y e. (first (constrained_whole (length x.of - 1))).agree p b c s t x.spelled.spelled y e }
  where
    constrained_whole : (n : ℕ) → Agree ⊥ (IsConstrainedWhole a 300 n) g
    constrained_whole n = record { agree = λ p b c s t x y e. let r = (h n).agree p b c s t x.spelled y e in absurd (omega (arith, r.0, x.below)) }

pub returns-clause-in_uper : goal.returns-clause-in_uper
unfolding canon
returns-clause-in_uper c v = not_both uper (0x96 ∷ 0x00 ∷ []) (no_count uper (BitField 9 300) (λ n. field_agree 9 n 300) v)
    (filled uper (then_within (field_within 9 300 (lit< tt)) (just_within [])) 9 (0x96 ∷ 0x00 ∷ []) refl (lit< tt) (lit< tt) tt)

pub returns-clause-in_aper : goal.returns-clause-in_aper
unfolding canon
returns-clause-in_aper c v = not_both aper (0x01 ∷ 0x2c ∷ []) (no_count aper (Then (AnyPadding aper) (BitField 16 300)) (λ n. padded_field_agree aper 16 n 300) v)
    (filled aper (then_within (then_within (padding_within aper) (field_within 16 300 (lit< tt))) (just_within [])) 16 (0x01 ∷ 0x2c ∷ []) refl (lit< tt) (lit< tt) tt)

-- six octets, whatever the bounds of their count
six : (v : Value) → Agree ⊥ (basic uper (octet_string (sized_to 4)) v) (Octets uper (1 ∷ 2 ∷ 3 ∷ 4 ∷ 5 ∷ 6 ∷ []))
unfolding basic_in
six v = record {
  agree = λ p b c s t x y e.
      let n = x.spelled in
      let r = (same_octets uper x.of (1 ∷ 2 ∷ 3 ∷ 4 ∷ 5 ∷ 6 ∷ [])).agree p b c s t (record { allowed = and_right (leb (length x.of) 4) (ltb (length x.of) (2 ^ 64)) n.allowed; spelled = n.spelled }) y e in
      let f : false ≡ true = subst (λ (k : List ℕ). leb (length k) 4 ≡ true) r.0 (and_left (leb (length x.of) 4) (ltb (length x.of) (2 ^ 64)) n.allowed) in absurd (cc);
}

pub returns-clause-upper_bound_alone : goal.returns-clause-upper_bound_alone
unfolding canon
returns-clause-upper_bound_alone c v = not_both uper (6 ∷ 1 ∷ 2 ∷ 3 ∷ 4 ∷ 5 ∷ 6 ∷ []) (six v) (filled uper (octets_within uper (1 ∷ 2 ∷ 3 ∷ 4 ∷ 5 ∷ 6 ∷ [])) 56 (6 ∷ 1 ∷ 2 ∷ 3 ∷ 4 ∷ 5 ∷ 6 ∷ []) refl (lit< tt) (lit< tt) tt)

-- 15 is none of ten counts
no_characters : (v : Value) → Agree ⊥ (basic uper (Schema.char_string visible (sized 1 10) false) v) (Then (BitField 4 15) (exactly (replicate 156 true)))
unfolding basic_in canon
no_characters v = record { agree = λ p b c s t x y e. (first (constrained_whole (length x.of - 1))).agree p b c s t x.spelled.spelled y e }
  where
    constrained_whole : (n : ℕ) → Agree ⊥ (IsConstrainedWhole uper 10 n) (BitField 4 15)
    constrained_whole n = record { agree = λ p b c s t x y e. let r = (field_agree 4 n 15).agree p b c s t x.spelled y e in absurd (omega (arith, r.0, x.below)) }

pub returns-clause-characters : goal.returns-clause-characters
unfolding canon
returns-clause-characters c v = not_both uper (replicate 20 0xff) (no_characters v)
    (filled uper (then_within (field_within 4 15 (lit< tt)) (just_within (replicate 156 true))) 160 (replicate 20 0xff) refl (lit< tt) (lit< tt) tt)
