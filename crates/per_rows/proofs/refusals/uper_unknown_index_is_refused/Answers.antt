use Rattle.std.proofs.Common.{◌≡◌, refl, sym, subst, lit<, ℕ, ◌++◌, [], ◌∷◌, List, length, replicate, true, false, arith, inl, inr}
use Rattle.rasn_types.specs.Bits.{Bits}
use Rattle.rasn_types.specs.Values.{Value, Side, root, added}
use Rattle.per_core.specs.Spellings.{Then, BitField, exactly}
use Rattle.per_core.specs.Basic.{Choice, Item, Rule, Fills, Chosen, basic, basic_in, fills, rules, IsConstrainedWhole}
use Rattle.per_core.specs.Versions.{alternatives_of}
use Rattle.per_core.specs.Canon.{canon}
use Rattle.per_core.proofs.SpellingsAgree.{Agree, weaken, then_agree, field_agree, exactly_agree}
use Rattle.per_core.proofs.WriterSpellings.{just_within, then_within, field_within}
use Rattle.per_rows.specs.Build.{uper}
use Rattle.per_rows.specs.Samples.{x_y_or_z, one_alternative, one_color}
use Rattle.per_rows.proofs.Reading.{filled, not_both, first, begins}
use Rattle.per_rows.proofs.refusals.uper_unknown_index_is_refused.Goals as goal

-- two bits of 3 are none of three places
third : (i : ℕ) → Agree ⊥ (IsConstrainedWhole uper 3 i) (BitField 2 3)
unfolding canon
third i = record { agree = λ p b c s t x y e. let r = (field_agree 2 i 3).agree p b c s t x.spelled y e in absurd (omega (arith, r.0, x.below)) }

of_three : (rs adds : List Rule) → length rs ≡ 3 → (d : Side) (i : ℕ) (v : Value) → Agree ⊥ (Choice uper false rs adds d i v) (Then (exactly []) (Then (BitField 2 3) (exactly [])))
of_three rs adds l root i v = weaken (λ r. r.1) (then_agree (exactly_agree [] [] refl) (λ e. first (subst (λ n. Agree ⊥ (IsConstrainedWhole uper n i) (BitField 2 3)) (sym l) (third i))))
of_three rs adds l added i v = record { agree = λ p b c s t x y e. absurd x.is_front }

no_fourth : (v : Value) → Agree ⊥ (basic uper x_y_or_z v) (Then (exactly []) (Then (BitField 2 3) (exactly [])))
unfolding basic_in
no_fourth v = record { agree = λ p b c s t x y e. (of_three (rules uper (alternatives_of x_y_or_z)) [] refl x.of.0 x.of.1 x.of.2).agree p b c s t x.spelled y e }

pub returns-clause-root_alternative : goal.returns-clause-root_alternative
returns-clause-root_alternative c v = not_both uper (0xc0 ∷ []) (no_fourth v) (filled uper (then_within (just_within []) (then_within (field_within 2 3 (lit< tt)) (just_within []))) 2 (0xc0 ∷ []) refl (lit< tt) (lit< tt) tt)

-- after extension bit 1 there is no alternative and no item
closed : (i : ℕ) (v : Value) (os : List ℕ) → Fills uper (Chosen [] i v) os → ⊥
closed i v os (inl x) = x.spelled
closed i v os (inr x) = x.0

no_added : (rs : List Rule) (d : Side) (i : ℕ) (v : Value) (front spare rest : Bits) → Choice uper true rs [] d i v 0 front → true ∷ rest ≡ front ++ spare → ⊥
no_added rs root i v front spare rest x e = let r = begins spare x e in let f : true ∷ rest ≡ false ∷ r.0 = r.1 in cc
no_added rs added i v front spare rest x e = let o = x.is_rest.is_rest in closed i v o.octets o.are

no_item : (d : Side) (i : ℕ) (front spare rest : Bits) → Item uper 1 0 true d i 0 front → true ∷ rest ≡ front ++ spare → ⊥
no_item root i front spare rest x e = let r = begins spare x e in let f : true ∷ rest ≡ false ∷ r.0 = r.1 in cc
no_item added i front spare rest x e = omega (arith, x.is_rest.known)

no_alternative : (v : Value) → fills uper one_alternative v (0x80 ∷ 0x01 ∷ 0x80 ∷ []) → ⊥
unfolding basic_in
no_alternative v (inl x) = no_added (rules uper (alternatives_of one_alternative)) x.spelled.of.0 x.spelled.of.1 x.spelled.of.2 x.front x.spare _ x.spelled.spelled x.all
no_alternative v (inr x) = cc

no_great_index : (v : Value) → fills uper one_alternative v (0xc2 ∷ 0x40 ∷ 0x40 ∷ replicate 8 0x00) → ⊥
unfolding basic_in
no_great_index v (inl x) = no_added (rules uper (alternatives_of one_alternative)) x.spelled.of.0 x.spelled.of.1 x.spelled.of.2 x.front x.spare _ x.spelled.spelled x.all
no_great_index v (inr x) = cc

no_color : (v : Value) → fills uper one_color v (0x80 ∷ []) → ⊥
unfolding basic_in
no_color v (inl x) = no_item x.spelled.of.0 x.spelled.of.1 x.front x.spare _ x.spelled.spelled x.all
no_color v (inr x) = cc

pub returns-clause-added_alternative : goal.returns-clause-added_alternative
returns-clause-added_alternative c v = no_alternative v

pub returns-clause-great_index : goal.returns-clause-great_index
returns-clause-great_index c v = no_great_index v

pub returns-clause-added_item : goal.returns-clause-added_item
returns-clause-added_item c v = no_color v
