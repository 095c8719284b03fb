-- How the law of a choice follows from that of the alternative at its place, over any codec.
use Rattle.std.proofs.Common.{◌≡◌, refl, sym, ap, ◌∙◌, subst, ℕ, zero, suc, ◌≤◌, ◌⊎◌, inl, inr, Bool, true, false, Result, Ok, Err, List, [], ◌∷◌, length, Option, Some, None, arith}
use Rattle.std.specs.Global.{Vec}
use Rattle.std.specs.Prelude.{IfSome, nat_lt, option_map, slice_get}
use Rattle.std.proofs.lemmas.Bool.{le-ltb, lt-ltb}
use Rattle.std.proofs.lemmas.Option.{slice_get_cases, slice_get_within}
use Rattle.rasn_types.specs.Values
use Rattle.rasn_types.specs.Values.{Value as Content, Side, alternative}
use Rattle.rasn_schema.specs.Normal.{AtDepths, normal}
use Rattle.rasn_schema.specs.Structures.{alternative_at, alternative_in, is_of_kind}
use Rattle.rasn_schema.specs.Choices.{one_level_in}
use Rattle.rasn_schema.specs.Enumerations.{addeds_of, is_extensible}
use Rattle.rasn_schema.specs.Schemas
use Rattle.rasn_schema.specs.Schemas.{Parts, Schema, count}
use Rattle.rasn_schema.specs.declared.items.ItemCounts.{ItemCounts}
use Rattle.rasn_schema.specs.declared.items.Place.{Place}
use Rattle.rasn_schema.specs.declared.items.Place.TheVariants.{Root, Added}
use Rattle.rasn_traits.specs.Calls.{DecoderRules, DecodesWell, EncoderRules, Refuses, Written}
use Rattle.rasn_traits.specs.Choices.{ChoicesWell, ClosesAlternative, PassesAlternative}
use Rattle.rasn_traits.specs.Counted.{index_in, IsChoiceOf, side_of, stands_in}
use Rattle.rasn_traits.proofs.Alternatives.{normal-alternative}
use Rattle.rasn_traits.proofs.Writing.{at_suc}
use Rattle.rasn_dynamic.specs.declared.types.Alternative.{Alternative}
use Rattle.rasn_dynamic.specs.declared.types.Choice.{Choice}
use Rattle.rasn_dynamic.specs.declared.types.Kind.{Kind}
use Rattle.rasn_dynamic.specs.Types.{alternative_counts, alternatives_in, behind, choice_in, choice_of, schema_at, standing}
use Rattle.rasn_dynamic.specs.declared.values.Value.{Value}
use Rattle.rasn_dynamic.specs.Values.{levels_of, NotAlternative, value_of}
use Rattle.rasn_dynamic.proofs.Trees.{not_cut}

-- the alternatives of a list
counted : (s : ℕ → Schema) (xs : List Alternative) → count (alternatives_in s xs) ≡ length xs
counted s [] = refl
counted s (x ∷ xs) = omega (arith, counted s xs)

there_at : (s : ℕ → Schema) (xs : List Alternative) (i : ℕ) (a : Alternative) → slice_get xs i ≡ Some a → alternative_at (alternatives_in s xs) i ≡ Some (s a.of)
there_at s [] i a e = absurd cc
there_at s (x ∷ xs) zero a e = let q : x ≡ a = cc in ap (λ b. Some (s b.of)) q
there_at s (x ∷ xs) (suc i) a e = there_at s xs i a e

has_some : (xs : List Alternative) (i : ℕ) (a : Alternative) → slice_get xs i ≡ Some a → nat_lt i (length xs) ≡ true
has_some xs i a e = lt-ltb i (length xs) (slice_get_within xs i a e)

has_none : (xs : List Alternative) (i : ℕ) → slice_get xs i ≡ None → nat_lt i (length xs) ≡ false
has_none xs i e = elim (slice_get_cases xs i).1 [ inl q ↦ absurd (let f : Some q.0 ≡ None = sym q.2 ∙ e in cc) | inr q ↦ le-ltb i (length xs) q.0 ]

after_counted : (c : Choice) → addeds_of (alternative_counts c).addeds ≡ length (behind c.addeds)
after_counted c = go c.addeds
  where
    go : (o : Option (Vec Alternative)) → addeds_of (option_map (λ v. length v.items) o) ≡ length (behind o)
    go None = refl
    go (Some v) = refl

-- the choices of a table are of so many alternatives
pub is_choice_of : (ts : List Kind) (c : Choice) (n : ℕ) → IsChoiceOf (alternative_counts c) (choice_of ts c n)
is_choice_of ts c n = (counted (λ j. schema_at ts j n) c.roots.items, counted (λ j. schema_at ts j n) (behind c.addeds) ∙ sym (after_counted c), refl)

-- the schema of the alternative at a place
pub chosen : (ts : List Kind) (c : Choice) (p : Place) (a : Alternative) → standing c p ≡ Some a → (n : ℕ) → alternative_in (choice_of ts c n) (side_of p) (index_in p) ≡ Some (schema_at ts a.of n)
chosen ts c (Root i) a e n = there_at (λ j. schema_at ts j n) c.roots.items i a e
chosen ts c (Added i) a e n = there_at (λ j. schema_at ts j n) (behind c.addeds) i a e

-- where an alternative stands
pub stands_some : (c : Choice) (p : Place) (a : Alternative) → standing c p ≡ Some a → stands_in (alternative_counts c) p ≡ true
stands_some c (Root i) a e = has_some c.roots.items i a e
stands_some c (Added i) a e = ap (nat_lt i) (after_counted c) ∙ has_some (behind c.addeds) i a e

pub stands_none : (c : Choice) (p : Place) → standing c p ≡ None → stands_in (alternative_counts c) p ≡ false
stands_none c (Root i) e = has_none c.roots.items i e
stands_none c (Added i) e = ap (nat_lt i) (after_counted c) ∙ has_none (behind c.addeds) i e

-- the alternative at a place of a choice that has one there
pub stands_there : (c : Choice) (p : Place) → stands_in (alternative_counts c) p ≡ true → (a : Alternative) × (standing c p ≡ Some a)
stands_there c p e = go (standing c p) refl
  where
    go : (o : Option Alternative) → standing c p ≡ o → (a : Alternative) × (standing c p ≡ Some a)
    go (Some a) q = (a, q)
    go None q = absurd (let f : true ≡ false = sym e ∙ stands_none c p q in cc)

-- values that aren't of a choice
pub no_choice : (ts : List Kind) (c : Choice) (v : Value) → NotAlternative (value_of v) → (n : ℕ) → levels_of v ≤ n → is_of_kind (one_level_in (choice_of ts c) n) (normal (one_level_in (choice_of ts c) n) (value_of v)) ≡ false
unfolding normal
no_choice ts c v e zero le = not_cut v le
no_choice ts c v e (suc n) le = go (alternatives_in (λ j. schema_at ts j n) c.roots.items) (alternatives_in (λ j. schema_at ts j n) (behind c.addeds)) (is_extensible (alternative_counts c).addeds) (value_of v) (e _ _ (is_extensible (alternative_counts c).addeds))
  where
    go : (ps qs : Parts) (m : Bool) (w : Content) → is_of_kind (Schemas.choice ps qs m) w ≡ false → is_of_kind (Schemas.choice ps qs m) (normal (Schemas.choice ps qs m) w) ≡ false
    go ps qs m (alternative Values.root i w) f = f
    go ps qs m (alternative Values.added i w) f = f
    go ps qs m w f = f

-- no alternative is at a place
pub none_chosen : (ts : List Kind) (c : Choice) (p : Place) (v : Content) → standing c p ≡ None
    → (n : ℕ) → is_of_kind (one_level_in (choice_of ts c) n) (normal (one_level_in (choice_of ts c) n) (alternative (side_of p) (index_in p) v)) ≡ false
unfolding normal
none_chosen ts c p v e zero = refl
none_chosen ts c (Root i) v e (suc n) = ap (nat_lt i) (counted (λ j. schema_at ts j n) c.roots.items) ∙ has_none c.roots.items i e
none_chosen ts c (Added i) v e (suc n) = ap (nat_lt i) (counted (λ j. schema_at ts j n) (behind c.addeds)) ∙ has_none (behind c.addeds) i e

module _ {E X : Type 0} (rules : EncoderRules E X) (choice s : ℕ → Schema) (d : Side) (k : ℕ) (there : (n : ℕ) → alternative_in (choice n) d k ≡ Some (s n)) (v : Content) (depth : ℕ) where
  -- a choice that isn't opened
  pub choice_unopened : (counts : ItemCounts) → ((n : ℕ) → IsChoiceOf counts (choice n)) → (x y : X) (e : E) → rules.memory e x ⊎ ((c : Schema) (w : Content) → IsChoiceOf counts c → rules.refuses e x c (alternative d k w))
      → AtDepths (one_level_in choice) (suc depth) (λ c. Written rules c (normal c (alternative d k v)) x (Err e) y)
  choice_unopened counts of x y e (inl m) = at_suc (λ n le. inl m)
  choice_unopened counts of x y e (inr h) = at_suc (λ n le. rw (normal-alternative (choice n) d k (s n) v (there n)) (inr (h (choice n) (normal (s n) v) (of n))))

  -- a choice whose alternative is refused
  pub placed_refused : (x i j y : X) (e : E) → ((n : ℕ) → PassesAlternative rules (choice n) d k x i) → AtDepths s depth (λ c. Written rules c (normal c v) i (Err e) j)
      → AtDepths (one_level_in choice) (suc depth) (λ c. Written rules c (normal c (alternative d k v)) x (Err e) y)
  placed_refused x i j y e h w = at_suc (λ n le. rw (normal-alternative (choice n) d k (s n) v (there n)) (elim (w.at n le) [ inl m ↦ inl ((h n).room e m) | inr q ↦ inr ((h n).of_choice e (s n) (normal (s n) v) (there n) q) ]))

  -- a choice whose alternative was presented
  pub placed_closed : {O : Type 0} (opens : Schema → Side → ℕ → X → O → X → Type 0) (x i j : X) (o : O) (u : Unit {0}) → ((n : ℕ) → opens (choice n) d k x o i) → AtDepths s depth (λ c. Written rules c (normal c v) i (Ok u) j)
      → (r : Result (Unit {0}) E) (y : X) → ClosesAlternative rules opens o j r y → AtDepths (one_level_in choice) (suc depth) (λ c. Written rules c (normal c (alternative d k v)) x r y)
  placed_closed opens x i j o u h w r y f = at_suc (λ n le. rw (normal-alternative (choice n) d k (s n) v (there n)) (f.law x i (choice n) d k (s n) (normal (s n) v) (h n) (there n) (w.at n le)))

-- a choice, as the calls of a decoder read it
module _ {S O E : Type 0} {rules : DecoderRules E S} {unended : O → E → S → Type 0} {opens : Schema → Side → ℕ → S → O → S → Type 0} {closes : S → O → S → Type 0}
    (L : DecodesWell rules) (K : ChoicesWell rules unended opens closes)
    (choice : ℕ → Schema) (d : Side) (k : ℕ) (a : Schema) {s i : S} {o : O} (deeper : rules.levels s ≡ suc (rules.levels i)) (there : alternative_in (choice (rules.levels i)) d k ≡ Some a) (h : opens (choice (rules.levels i)) d k s o i) where
  as_choice : (P : Schema → Type 0) → P (choice (rules.levels i)) → P (one_level_in choice (rules.levels s))
  as_choice P q = subst P (sym (ap (one_level_in choice) deeper)) q

  -- the decoder after an alternative hasn't failed
  pub placed_left : (v : Content) (j : S) → rules.spells a i v j → rules.failed j ≡ false
  placed_left v j q = (L.spelled a).left i v j q

  -- a choice whose alternative was read
  pub placed_ended : (v : Content) (j t : S) → rules.spells a i v j → closes j o t → rules.spells (one_level_in choice (rules.levels s)) s (alternative d k v) t
  placed_ended v j t q b = as_choice (λ c. rules.spells c s (alternative d k v) t) (K.choice_read (choice (rules.levels i)) d k a s i j t o v h there q b)

  -- a choice whose alternative isn't read
  pub placed_failed : {e : E} → rules.memory e i ⊎ Refuses (rules.spells a) (rules.fault a) e i
      → rules.memory e s ⊎ Refuses (rules.spells (one_level_in choice (rules.levels s))) (rules.fault (one_level_in choice (rules.levels s))) e s
  placed_failed {e} (inl m) = inl (K.room (choice (rules.levels i)) d k s o i e h m)
  placed_failed {e} (inr r) = inr (as_choice (λ c. Refuses (rules.spells c) (rules.fault c) e s) (record {
    nothing = λ w t q. let b = K.choice_back (choice (rules.levels i)) d k a s i t o w h there q in r.nothing b.1.0 b.0 b.1.2;
    stands = K.in_alternative (choice (rules.levels i)) d k a s o i e h there r.stands;
  }))

  -- a choice that doesn't end after its alternative
  pub placed_endless : {e : E} (v : Content) (j : S) → rules.spells a i v j → rules.memory e j ⊎ (((u : S) → closes j o u → ⊥) × unended o e j)
      → rules.memory e s ⊎ Refuses (rules.spells (one_level_in choice (rules.levels s))) (rules.fault (one_level_in choice (rules.levels s))) e s
  placed_endless {e} v j q (inl m) = inl (K.room (choice (rules.levels i)) d k s o i e h ((L.spelled a).room i v j e q m))
  placed_endless {e} v j q (inr r) = inr (as_choice (λ c. Refuses (rules.spells c) (rules.fault c) e s) (record {
    nothing = λ w t p.
        let b = K.choice_back (choice (rules.levels i)) d k a s i t o w h there p in
        r.0 t (subst (λ z. closes z o t) ((L.spelled a).one i b.1.0 v b.0 j b.1.2 q).1 b.2);
    stands = K.at_end (choice (rules.levels i)) d k a s i j o v e h there q r.1;
  }))
