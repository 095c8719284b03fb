-- The place of the first element that a test takes is one of the list's.
use Rattle.std.proofs.Common.{◌≡◌, refl, ap, subst, ℕ, suc, ◌+◌, ◌<◌, Bool, true, false, cond, List, [], ◌∷◌, map, length, Option, Some, None, Result, arith}
use Rattle.rasn_types.specs.Values.{Value, root, added}
use Rattle.std.specs.List.{position_from}
use Rattle.rasn_schema.specs.Choices.{VariantShape, go_by, place_of, StandsAt, variants_after}
use Rattle.rasn_schema.specs.Structures.{alternative_in}
use Rattle.rasn_schema.specs.declared.items.Place.{Place}
use Rattle.rasn_schema.specs.declared.items.Place.TheVariants.{Root, Added}
use Rattle.rasn_schema.specs.Lawful.{same_tag}
use Rattle.rasn_schema.specs.Schemas.{Schema, Tag}
use Rattle.rasn_traits.specs.Calls.{Answers, Behaves, DecoderRules}
use Rattle.rasn_traits.specs.Choices.{IsPlaceOf, ReadsAlternative, TakesAlternative, TakesAt}

place_within : {A : Type 0} (test : A → Bool) (j i : ℕ) (xs : List A) → position_from test j xs ≡ Some i → i < j + length xs
place_within test j i [] e = absurd (cc)
place_within test j i (x ∷ xs) e = go (test x) e (place_within test (j + 1) i xs)
  where
    go : (b : Bool) → cond b (Some j) (position_from test (j + 1) xs) ≡ Some i
        → (position_from test (j + 1) xs ≡ Some i → i < j + 1 + length xs) → i < j + suc (length xs)
    go true e r = let k : j ≡ i = cc in omega arith
    go false e r = let l : i < j + 1 + length xs = r e in omega arith

length_map : {A B : Type 0} (f : A → B) (xs : List A) → length (map f xs) ≡ length xs
length_map f [] = refl
length_map f (x ∷ xs) = ap suc (length_map f xs)

-- the place of the alternative that goes by a tag is one of its list's
pub alternative_within : (t : Tag) (vs : List VariantShape) (i : ℕ) → place_of t vs ≡ Some i → i < length vs
alternative_within t vs i e =
    let h : i < 0 + length (go_by vs) = place_within (same_tag t) 0 i (go_by vs) e in
    let l : length (go_by vs) ≡ length vs = length_map (λ v. v.tag) vs in
    omega arith

-- so is that of one of two lists
pub stands_within : (t : Tag) (vs : List VariantShape) (xs : Option (List VariantShape)) (p : Place)
    → StandsAt t vs xs (Some p) → IsPlaceOf vs xs p
stands_within t vs xs (Root i) s = alternative_within t vs i s.0
stands_within t vs xs (Added i) s = alternative_within t (variants_after xs) i s.1

-- the alternative at a place is the one that goes by a tag which is there
pub taken_at : {E S T : Type 0} (rules : DecoderRules E S) (choice : ℕ → Schema) (vs : List VariantShape) (xs : Option (List VariantShape)) (t : Tag) (p : Place) (value : T → Value) (x : S) (r : Result T E) (y : S) → StandsAt t vs xs (Some p)
    → TakesAt rules choice p value x r y → TakesAlternative rules choice vs xs t value x r y
taken_at rules choice vs xs t (Root i) value x r y s h = record {
  before = λ k c e a. let same : i ≡ k = cc in subst (λ j. alternative_in (choice (rules.levels x)) root j ≡ Some c → Answers rules.memory (rules.fault c) (ReadsAlternative rules root j c) value x r y) same (h.there c) a;
  behind = λ k c e a. absurd cc;
  behaves = h.behaves;
}
taken_at rules choice vs xs t (Added i) value x r y s h = record {
  before = λ k c e a. absurd cc;
  behind = λ k c e a. let same : i ≡ k = cc in subst (λ j. alternative_in (choice (rules.levels x)) added j ≡ Some c → Answers rules.memory (rules.fault c) (ReadsAlternative rules added j c) value x r y) same (h.there c) a;
  behaves = h.behaves;
}

-- none goes by a tag that none has
pub none_taken : {E S T : Type 0} (rules : DecoderRules E S) (choice : ℕ → Schema) (vs : List VariantShape) (xs : Option (List VariantShape)) (t : Tag) (value : T → Value) (x : S) (r : Result T E) (y : S) → StandsAt t vs xs None
    → Behaves rules.already rules.failed rules.codec x r y → TakesAlternative rules choice vs xs t value x r y
none_taken rules choice vs xs t value x r y s b = record { before = λ k c e a. absurd cc; behind = λ k c e a. absurd cc; behaves = b }
