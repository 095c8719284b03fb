-- The places of a choice's alternatives, and how many these are.
use Rattle.std.proofs.Common.{◌≡◌, ap, sym, refl, subst, ◌∙◌, ◌<◌, ℕ, zero, suc, Bool, length, true, lt-ltb, ltb-true, inl, inr, arith, List, Option, Some, None, Result, Ok, Err}
use Rattle.rasn_types.specs.Values.{Side}
use Rattle.rasn_schema.specs.Choices.{VariantShape, choices_of, is_extensible, variants_after, variants_of}
use Rattle.rasn_schema.specs.Structures.{alternative_at, alternative_in, choice_schema}
use Rattle.rasn_schema.specs.Schemas.{count, Parts, no_parts, part, Schema}
use Rattle.rasn_schema.specs.declared.items.ItemCounts.{ItemCounts}
use Rattle.rasn_schema.specs.declared.items.Place.{Place}
use Rattle.rasn_schema.specs.declared.items.Place.TheVariants.{Root, Added}
use Rattle.rasn_traits.specs.Calls.{DecoderRules, EncoderRules}
use Rattle.rasn_traits.specs.Choices.{IsPlaceOf, OpensAlternative, OpensAlternativeToRead, index_in, side_of}
use Rattle.rasn_traits.specs.Counted.{IsChoiceOf, OpensPlaced, OpensPlacedToRead, stands_in, variant_counts}

-- there are as many alternatives as variants
counted : (ps : Parts) → count ps ≡ length (variants_of ps)
counted no_parts = refl
counted (part t p s ps) = let e = counted ps in omega arith

-- a choice of alternatives is one of as many as its type states
pub is_choice_of : {vs : List VariantShape} (xs : Option (List VariantShape)) (ps qs : Parts) → vs ≡ variants_of ps → variants_after xs ≡ variants_of qs → IsChoiceOf (variant_counts vs xs) (choice_schema ps (is_extensible xs) qs)
is_choice_of None ps qs e f = (counted ps ∙ ap length (sym e), counted qs ∙ ap length (sym f), refl)
is_choice_of (Some vs) ps qs e f = (counted ps ∙ ap length (sym e), counted qs ∙ ap length (sym f), refl)

-- at a place of one of them an alternative stands
pub place_stands : (vs : List VariantShape) (xs : Option (List VariantShape)) (p : Place) → IsPlaceOf vs xs p → stands_in (variant_counts vs xs) p ≡ true
place_stands vs xs (Root i) h = lt-ltb i (length vs) h
place_stands vs None (Added i) h = absurd (omega arith)
place_stands vs (Some ws) (Added i) h = lt-ltb i (length ws) h

pub stands_place : (vs : List VariantShape) (xs : Option (List VariantShape)) (p : Place) → stands_in (variant_counts vs xs) p ≡ true → IsPlaceOf vs xs p
stands_place vs xs (Root i) h = ltb-true i (length vs) h
stands_place vs None (Added i) h = let l : i < 0 = ltb-true i 0 h in absurd (omega arith)
stands_place vs (Some ws) (Added i) h = ltb-true i (length ws) h

at_index : (ps : Parts) (i : ℕ) → i < count ps → (s : Schema) × (alternative_at ps i ≡ Some s)
at_index no_parts i h = absurd (omega arith)
at_index (part t p s ps) zero h = (s, refl)
at_index (part t p s ps) (suc i) h = at_index ps i (omega arith)

-- its schema
pub alternative_there : (vs : List VariantShape) (xs : Option (List VariantShape)) (ps qs : Parts) (marker : Bool) (p : Place) → vs ≡ variants_of ps → variants_after xs ≡ variants_of qs → IsPlaceOf vs xs p
    → (s : Schema) × (alternative_in (choice_schema ps marker qs) (side_of p) (index_in p) ≡ Some s)
alternative_there vs xs ps qs marker (Root i) e f h = at_index ps i (subst (λ n. i < n) (sym (counted ps ∙ ap length (sym e))) h)
alternative_there vs xs ps qs marker (Added i) e f h = at_index qs i (subst (λ n. i < n) (sym (counted qs ∙ ap length (sym f))) h)

-- a choice is opened as one of so many alternatives is
pub alternative_opened : {E X O : Type 0} {rules : EncoderRules E X} {opens : Schema → Side → ℕ → X → O → X → Type 0} (choice : ℕ → Schema) (c : ItemCounts) (p : Place) (x : X) (r : Result O E) (y : X)
    → ((n : ℕ) → IsChoiceOf c (choice n)) → OpensPlaced rules opens c p x r y → OpensAlternative rules opens choice p x r y
alternative_opened choice c p x (Ok o) y k h = record { law = λ n. h.law (choice n) (k n); behaves = h.behaves }
alternative_opened choice c p x (Err e) y k h = record { law = elim h.law [ inl m ↦ inl m | inr q ↦ inr (λ n v. q (choice n) v (k n)) ]; behaves = h.behaves }

-- and so to read
pub placed_to_read : {E S O : Type 0} (rules : DecoderRules E S) (opens : Schema → Side → ℕ → S → O → S → Type 0) (alternatives behind : ℕ → Parts) (vs : List VariantShape) (xs : Option (List VariantShape))
    → ((n : ℕ) → vs ≡ variants_of (alternatives n)) → ((n : ℕ) → variants_after xs ≡ variants_of (behind n)) → (s : S) (r : Result (Place × O) E) (t : S) → OpensPlacedToRead rules opens (variant_counts vs xs) s r t
    → OpensAlternativeToRead rules opens (choices_of alternatives xs behind) vs xs s r t
placed_to_read rules opens alternatives behind vs xs e f s (Ok r) t h =
    let n = rules.levels t in
    let p = stands_place vs xs r.0 h.place in
    let a = alternative_there vs xs (alternatives n) (behind n) (is_extensible xs) r.0 (e n) (f n) p in
    record {
      law = record { deeper = h.deeper; among = p; schema = a.0; there = a.1; opened = h.opened (choices_of alternatives xs behind) (λ m. is_choice_of xs (alternatives m) (behind m) (e m) (f m)) };
      counts = h.counts;
      behaves = h.behaves;
    }
placed_to_read rules opens alternatives behind vs xs e f s (Err z) t h =
    record { law = h.opened (choices_of alternatives xs behind) (λ m. is_choice_of xs (alternatives m) (behind m) (e m) (f m)); counts = tt; behaves = h.behaves }
