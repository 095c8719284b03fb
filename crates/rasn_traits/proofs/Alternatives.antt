-- How the law of a choice follows from that of its alternative and of its scope.
use Rattle.std.proofs.Common.{◌≡◌, ap, refl, subst, sym, ℕ, zero, suc, ◌⊎◌, inl, inr, Bool, false, Result, Ok, Err, List, Option, Some}
use Rattle.rasn_types.specs.Values.{Value, alternative, Side, root, added}
use Rattle.rasn_types.specs.declared.types.Tag.{Tag}
use Rattle.rasn_schema.specs.Schemas
use Rattle.rasn_schema.specs.Schemas.{Schema, Parts, no_parts, part}
use Rattle.rasn_schema.specs.Choices.{VariantShape, choice_at, choices_of, is_extensible, one_level_in, place_of}
use Rattle.rasn_schema.specs.Choices.{variants_on}
use Rattle.rasn_schema.specs.Structures.{alternative_at, alternative_in, choice_schema, tag_of}
use Rattle.rasn_schema.specs.Components.{Chosen, chosen_value}
use Rattle.rasn_schema.specs.Normal.{normal, normal_at, AtDepths}
use Rattle.rasn_schema.specs.declared.items.Place.{Place}
use Rattle.rasn_traits.specs.Calls.{Answers, EncoderRules, Written, DecoderRules, Refuses, DecodesWell}
use Rattle.rasn_traits.specs.Choices.{AtAlternative, AlternativeWritten, PassesAlternative, PassesChoice, ClosesAlternative, ClosesChoice, ChoicesWell, IsChosen, OpenedAlternative, ReadsAlternative, StandsAtPlace, TakesAlternative, index_in, side_of}
use Rattle.rasn_traits.proofs.Writing.{at_suc}

at_place : (ps : Parts) (k : ℕ) (s : Schema) (v : Value) → alternative_at ps k ≡ Some s → normal_at ps k v ≡ normal s v
unfolding normal
at_place no_parts k s v e = absurd cc
at_place (part t p c ps) zero s v e = let i : c ≡ s = cc in ap (λ z. normal z v) i
at_place (part t p c ps) (suc k) s v e = at_place ps k s v e

-- the normal form of a choice has that of its alternative
pub normal-alternative : (c : Schema) (d : Side) (k : ℕ) (s : Schema) (v : Value) → alternative_in c d k ≡ Some s → normal c (alternative d k v) ≡ alternative d k (normal s v)
unfolding normal
normal-alternative (Schema.choice ps qs marker) root k s v e = ap (alternative root k) (at_place ps k s v e)
normal-alternative (Schema.choice ps qs marker) added k s v e = ap (alternative added k) (at_place qs k s v e)
normal-alternative _ d k s v e = absurd cc

module _ {E X : Type 0} (rules : EncoderRules E X) where
  -- a choice with an alternative that is refused
  pub choice_refused : (choice : ℕ → Schema) (variants : List VariantShape) (d : Side) (k : ℕ) (v : Value) (depth : ℕ) (x i j y : X) (e : E) → ((n : ℕ) → PassesChoice rules (choice n) x i)
      → AtAlternative choice d k depth (λ s. AlternativeWritten rules variants k s (normal s v) i (Err e) j)
      → AtDepths (one_level_in choice) (suc depth) (λ s. Written rules s (normal s (alternative d k v)) x (Err e) y)
  choice_refused choice variants d k v depth x i j y e h w = at_suc (λ n le.
      let a = w.at n le in
      rw (normal-alternative (choice n) d k a.0 v a.1) (elim a.2 [ inl m ↦ inl ((h n).room e m) | inr q ↦ inr ((h n).of_choice e d k a.0 (normal a.0 v) a.1 q) ]))

  -- a choice whose alternative was presented
  pub choice_closed : {O : Type 0} (opens : Schema → X → O → X → Type 0) (choice : ℕ → Schema) (vs : List VariantShape) (xs : Option (List VariantShape)) (d : Side) (k : ℕ) (v : Value) (depth : ℕ) (x i j : X) (o : O) (t : Tag)
      → ((n : ℕ) → opens (choice n) x o i) → AtAlternative choice d k depth (λ s. AlternativeWritten rules (variants_on d vs xs) k s (normal s v) i (Ok t) j)
      → (r : Result (Unit {0}) E) (y : X) → ClosesChoice rules opens choice vs xs o (tag_of t) j r y
      → AtDepths (one_level_in choice) (suc depth) (λ s. Written rules s (normal s (alternative d k v)) x r y)
  choice_closed opens choice vs xs d k v depth x i j o t h w r y f = at_suc (λ n le.
      let a = w.at n le in
      rw (normal-alternative (choice n) d k a.0 v a.1) (f.law x i n d k a.0 (normal a.0 v) (h n) a.2.0 a.1 a.2.1))

-- the normal form of a choice has some value of its alternative
normal_some : (ps : Parts) (marker : Bool) (qs : Parts) (d : Side) (k : ℕ) (v : Value) → (w : Value) × (normal (choice_schema ps marker qs) (alternative d k v) ≡ alternative d k w)
unfolding normal
normal_some ps marker qs root k v = (normal_at ps k v, refl)
normal_some ps marker qs added k v = (normal_at qs k v, refl)

-- what is so at the place of an alternative is so of the one that is chosen
at_chosen : {vs : List VariantShape} {xs : Option (List VariantShape)} (c : Chosen) (p : Place) (P : Side → ℕ → Type 0) → StandsAtPlace vs xs c p → P (side_of p) (index_in p) → P c.side c.place
at_chosen c p P h q = subst (λ d. P d c.place) h.side (subst (λ k. P (side_of p) k) h.index q)

-- a choice that is opened to write the alternative that is chosen, which is at a place
module _ {E X O : Type 0} (rules : EncoderRules E X) (opens : Schema → Side → ℕ → X → O → X → Type 0) (alternatives behind : ℕ → Parts) {vs : List VariantShape} (xs : Option (List VariantShape)) (c : Chosen) (depth : ℕ) (p : Place)
    (stands : StandsAtPlace vs xs c p) where
  -- it isn't opened
  pub alternative_unopened : (x y : X) (e : E) → OpenedAlternative rules opens (choices_of alternatives xs behind) (side_of p) (index_in p) x (Err e) y
      → AtDepths (choice_at alternatives xs behind) (suc depth) (λ s. Written rules s (normal s (chosen_value c)) x (Err e) y)
  alternative_unopened x y e h = elim h [
    | inl m ↦ at_suc (λ n le. inl m)
    | inr q ↦ at_suc (λ n le.
        let w = normal_some (alternatives n) (is_extensible xs) (behind n) c.side c.place c.value in
        rw w.1 (inr (at_chosen c p (λ d k. rules.refuses e x (choices_of alternatives xs behind n) (alternative d k w.0)) stands (q n w.0))))
  ]

  -- its alternative is refused
  pub alternative_refused : (x i j y : X) (o : O) (e : E) → OpenedAlternative rules opens (choices_of alternatives xs behind) (side_of p) (index_in p) x (Ok o) i
      → AtAlternative (choices_of alternatives xs behind) c.side c.place depth (λ s. Written rules s (normal s c.value) i (Err e) j)
      → AtDepths (choice_at alternatives xs behind) (suc depth) (λ s. Written rules s (normal s (chosen_value c)) x (Err e) y)
  alternative_refused x i j y o e h w = at_suc (λ n le.
      let a = w.at n le in
      let passes = at_chosen c p (λ d k. PassesAlternative rules (choices_of alternatives xs behind n) d k x i) stands (h n).1 in
      rw (normal-alternative (choices_of alternatives xs behind n) c.side c.place a.0 c.value a.1) (elim a.2 [ inl m ↦ inl (passes.room e m) | inr q ↦ inr (passes.of_choice e a.0 (normal a.0 c.value) a.1 q) ]))

  -- its alternative was presented
  pub alternative_closed : (x i j : X) (o : O) (u : Unit {0}) → OpenedAlternative rules opens (choices_of alternatives xs behind) (side_of p) (index_in p) x (Ok o) i
      → AtAlternative (choices_of alternatives xs behind) c.side c.place depth (λ s. Written rules s (normal s c.value) i (Ok u) j)
      → (r : Result (Unit {0}) E) (y : X) → ClosesAlternative rules opens o j r y
      → AtDepths (choice_at alternatives xs behind) (suc depth) (λ s. Written rules s (normal s (chosen_value c)) x r y)
  alternative_closed x i j o u h w r y f = at_suc (λ n le.
      let a = w.at n le in
      rw (normal-alternative (choices_of alternatives xs behind n) c.side c.place a.0 c.value a.1)
      (f.law x i (choices_of alternatives xs behind n) c.side c.place a.0 (normal a.0 c.value) (at_chosen c p (λ d k. opens (choices_of alternatives xs behind n) d k x o i) stands (h n).0) a.1 a.2))

-- a choice of which an alternative is read that is at a place
module _ {S O E : Type 0} {rules : DecoderRules E S} {unended : O → E → S → Type 0} {opens : Schema → Side → ℕ → S → O → S → Type 0} {closes : S → O → S → Type 0}
    (L : DecodesWell rules) (K : ChoicesWell rules unended opens closes)
    (choice : ℕ → Schema) (d : Side) (k : ℕ) (c : Schema) {s i : S} {o : O} (deeper : rules.levels s ≡ suc (rules.levels i)) (there : alternative_in (choice (rules.levels i)) d k ≡ Some c) (h : opens (choice (rules.levels i)) d k s o i) where
  placed_choice : (P : Schema → Type 0) → P (choice (rules.levels i)) → P (one_level_in choice (rules.levels s))
  placed_choice P q = subst P (sym (ap (one_level_in choice) deeper)) q

  -- the decoder after its alternative hasn't failed
  pub placed_left : (w : Value) (j : S) → ReadsAlternative rules d k c i w j → rules.failed j ≡ false
  placed_left w j a = (L.spelled c).left i a.0 j a.2

  -- its alternative was read
  pub placed_ended : (w : Value) (j t : S) → ReadsAlternative rules d k c i w j → closes j o t → rules.spells (one_level_in choice (rules.levels s)) s w t
  placed_ended w j t a b =
      placed_choice (λ z. rules.spells z s w t)
      (subst (λ v. rules.spells (choice (rules.levels i)) s v t) (sym a.1) (K.choice_read (choice (rules.levels i)) d k c s i j t o a.0 h there a.2 b))

  -- its alternative isn't read
  pub placed_failed : {e : E} → rules.memory e i ⊎ Refuses (ReadsAlternative rules d k c) (rules.fault c) e i
      → rules.memory e s ⊎ Refuses (rules.spells (one_level_in choice (rules.levels s))) (rules.fault (one_level_in choice (rules.levels s))) e s
  placed_failed {e} (inl m) = inl (K.room (choice (rules.levels i)) d k s o i e h m)
  placed_failed {e} (inr r) = inr (placed_choice (λ z. Refuses (rules.spells z) (rules.fault z) e s) (record {
    nothing = λ w t q. let b = K.choice_back (choice (rules.levels i)) d k c s i t o w h there q in r.nothing w b.0 b.1;
    stands = K.in_alternative (choice (rules.levels i)) d k c s o i e h there r.stands;
  }))

  -- it doesn't end after its alternative
  pub placed_endless : {e : E} (w : Value) (j : S) → ReadsAlternative rules d k c i w j → rules.memory e j ⊎ (((u : S) → closes j o u → ⊥) × unended o e j)
      → rules.memory e s ⊎ Refuses (rules.spells (one_level_in choice (rules.levels s))) (rules.fault (one_level_in choice (rules.levels s))) e s
  placed_endless {e} w j a (inl m) = inl (K.room (choice (rules.levels i)) d k s o i e h ((L.spelled c).room i a.0 j e a.2 m))
  placed_endless {e} w j a (inr r) = inr (placed_choice (λ z. Refuses (rules.spells z) (rules.fault z) e s) (record {
    nothing = λ v t q.
        let b = K.choice_back (choice (rules.levels i)) d k c s i t o v h there q in
        r.0 t (subst (λ z. closes z o t) ((L.spelled c).one i b.1.0 a.0 b.0 j b.1.2 a.2).1 b.2);
    stands = K.at_end (choice (rules.levels i)) d k c s i j o a.0 e h there a.2 r.1;
  }))

-- a choice, as the calls of a decoder read it
module _ {S O E : Type 0} {rules : DecoderRules E S} {unended : O → E → S → Type 0} {opens : Schema → Side → ℕ → S → O → S → Type 0} {closes : S → O → S → Type 0}
    (L : DecodesWell rules) (K : ChoicesWell rules unended opens closes)
    (choice : ℕ → Schema) (vs : List VariantShape) (xs : Option (List VariantShape)) (tag : Schemas.Tag) {s i : S} {o : O} (h : IsChosen rules opens choice vs xs tag s o i) where
  -- the alternative that goes by the tag is the one after the index
  pub alternative_taken : {T : Type 0} (value : T → Value) (r : Result T E) (j : S) → TakesAlternative rules choice vs xs tag value i r j
      → Answers rules.memory (rules.fault h.schema) (ReadsAlternative rules h.side h.index h.schema) value i r j
  alternative_taken value r j f = go h.side h.place h.there
    where
      go : (d : Side) → place_of tag (variants_on d vs xs) ≡ Some h.index → alternative_in (choice (rules.levels i)) d h.index ≡ Some h.schema
          → Answers rules.memory (rules.fault h.schema) (ReadsAlternative rules d h.index h.schema) value i r j
      go root p a = f.before h.index h.schema p a
      go added p a = f.behind h.index h.schema p a

  -- the decoder after an alternative hasn't failed
  pub alternative_left : (w : Value) (j : S) → ReadsAlternative rules h.side h.index h.schema i w j → rules.failed j ≡ false
  alternative_left w j a = placed_left L K choice h.side h.index h.schema h.deeper h.there h.opened w j a

  -- a choice whose alternative was read
  pub choice_ended : (w : Value) (j t : S) → ReadsAlternative rules h.side h.index h.schema i w j → closes j o t → rules.spells (one_level_in choice (rules.levels s)) s w t
  choice_ended w j t a b = placed_ended L K choice h.side h.index h.schema h.deeper h.there h.opened w j t a b

  -- a choice whose alternative isn't read
  pub choice_failed : {e : E} → rules.memory e i ⊎ Refuses (ReadsAlternative rules h.side h.index h.schema) (rules.fault h.schema) e i
      → rules.memory e s ⊎ Refuses (rules.spells (one_level_in choice (rules.levels s))) (rules.fault (one_level_in choice (rules.levels s))) e s
  choice_failed r = placed_failed L K choice h.side h.index h.schema h.deeper h.there h.opened r

  -- a choice that doesn't end after its alternative
  pub choice_endless : {e : E} (w : Value) (j : S) → ReadsAlternative rules h.side h.index h.schema i w j → rules.memory e j ⊎ (((u : S) → closes j o u → ⊥) × unended o e j)
      → rules.memory e s ⊎ Refuses (rules.spells (one_level_in choice (rules.levels s))) (rules.fault (one_level_in choice (rules.levels s))) e s
  choice_endless w j a r = placed_endless L K choice h.side h.index h.schema h.deeper h.there h.opened w j a r
