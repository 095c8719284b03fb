-- Members of an object by the names of what they tell.
use Rattle.std.proofs.Common.{◌≡◌, refl, sym, ap, ap₂, ◌∙◌, ℕ, Bool, true, false, cond, ◌&&◌, ◌||◌, List, [], ◌∷◌, ◌++◌, map, Option, Some, None}
use Rattle.std.specs.Prelude.{flat_map, is_some}
use Rattle.std.specs.Str.{bytes_eq}
use Rattle.std.proofs.lemmas.Bool.{and_from, and_parts}
use Rattle.json.specs.Find.{get_member, later_or}
use Rattle.json.specs.Json.{Json, Members, no_members, member, object}
use Rattle.json.specs.Strict.{HasUniqueKeys, keys, MembersHaveUniqueKeys}
use Rattle.rasn_types.specs.AllOf.{all_of, joined}
use Rattle.rasn_types.specs.Values.{Value}
use Rattle.rasn_dynamic_jer.specs.DistinctNames.{differ, is_among}
use Rattle.rasn_dynamic_jer.specs.Shown.{Member, members_from}
use Rattle.rasn_dynamic_jer.proofs.Named.{among_append, differ_apart, differ_both, differ_distinct, differ_left, differ_right, or_none, or_right, or_left, own_name, same_name}

-- the names of members
abbrev pub names_of : List Member → List (List ℕ)
names_of ms = keys (members_from ms)

names_append : (ms ns : List Member) → names_of (ms ++ ns) ≡ names_of ms ++ names_of ns
names_append [] ns = refl
names_append (m ∷ ms) ns = ap (λ ks. m.0 ∷ ks) (names_append ms ns)

-- the last member with a name, among others before others
later_assoc : (a b c : Option Json) → later_or (later_or a b) c ≡ later_or a (later_or b c)
later_assoc None b c = refl
later_assoc (Some j) b c = refl

later_none : (o : Option Json) → later_or o None ≡ o
later_none None = refl
later_none (Some j) = refl

abbrev pub lookup : List ℕ → List Member → Option Json
lookup n ms = get_member n (members_from ms)

lookup_append : (n : List ℕ) (ms ns : List Member) → lookup n (ms ++ ns) ≡ later_or (lookup n ns) (lookup n ms)
lookup_append n [] ns = sym (later_none (lookup n ns))
lookup_append n (m ∷ ms) ns = ap (λ o. later_or o (cond (bytes_eq m.0 n) (Some m.1) None)) (lookup_append n ms ns) ∙ later_assoc (lookup n ns) (lookup n ms) (cond (bytes_eq m.0 n) (Some m.1) None)

pub lookup_none : (n : List ℕ) (ms : List Member) → is_among (names_of ms) n ≡ false → lookup n ms ≡ None
lookup_none n [] e = refl
lookup_none n (m ∷ ms) e =
    let p = or_none (bytes_eq m.0 n) (is_among (names_of ms) n) e in
    ap₂ (λ o b. later_or o (cond b (Some m.1) None)) (lookup_none n ms p.1) p.0

pub lookup_one : (n : List ℕ) (j : Json) → lookup n ((n, j) ∷ []) ≡ Some j
lookup_one n j = ap (λ b. cond b (Some j) None) (own_name n)

-- an object has of some names what members have
abbrev pub AgreesOn : List (List ℕ) → Members → List Member → Type 0
AgreesOn ns js ms = (n : List ℕ) → is_among ns n ≡ true → get_member n js ≡ lookup n ms

-- what members tell of something that has names
pub record Tells {W : Type 0} (ns : List (List ℕ)) (told : Members → Option W) (w : W) (ms : List Member) : Type 0 where
  pub tells : (js : Members) → AgreesOn ns js ms → told js ≡ Some w
  pub named : (n : List ℕ) → is_among (names_of ms) n ≡ true → is_among ns n ≡ true
  pub distinct : differ (names_of ms) ≡ true
  pub unique : MembersHaveUniqueKeys (members_from ms)

unique_append : (ms ns : List Member) → MembersHaveUniqueKeys (members_from ms) → MembersHaveUniqueKeys (members_from ns) → MembersHaveUniqueKeys (members_from (ms ++ ns))
unique_append [] ns h k = k
unique_append (m ∷ ms) ns h k = (h.0, unique_append ms ns h.1 k)

-- two things, of which each has names of its own
not_among : (ns : List (List ℕ)) (n : List ℕ) (ms : List Member) → ((m : List ℕ) → is_among (names_of ms) m ≡ true → is_among ns m ≡ true) → is_among ns n ≡ false → is_among (names_of ms) n ≡ false
not_among ns n ms h e = go (is_among (names_of ms) n) refl
  where
    go : (b : Bool) → is_among (names_of ms) n ≡ b → is_among (names_of ms) n ≡ false
    go false f = f
    go true f = let k : true ≡ false = sym (h n f) ∙ e in absurd cc

apart_right : (ns ks : List (List ℕ)) (n : List ℕ) → differ (ns ++ ks) ≡ true → is_among ns n ≡ true → is_among ks n ≡ false
apart_right ns ks n d e = go (is_among ks n) refl
  where
    go : (b : Bool) → is_among ks n ≡ b → is_among ks n ≡ false
    go false f = f
    go true f = let k : true ≡ false = sym e ∙ differ_apart ns ks n d f in absurd cc

module _ {V W : Type 0} (ns ks : List (List ℕ)) (f : Members → Option V) (g : Members → Option W) (v : V) (w : W) (ms os : List Member)
    (h : Tells ns f v ms) (k : Tells ks g w os) (d : differ (ns ++ ks) ≡ true) where
  pub first_tells : (js : Members) → AgreesOn (ns ++ ks) js (ms ++ os) → f js ≡ Some v
  first_tells js a = h.tells js (λ n e.
      a n (among_append ns ks n ∙ or_left (is_among ns n) (is_among ks n) e)
      ∙ lookup_append n ms os
      ∙ ap (λ o. later_or o (lookup n ms)) (lookup_none n os (not_among ks n os k.named (apart_right ns ks n d e))))

  pub second_tells : (js : Members) → AgreesOn (ns ++ ks) js (ms ++ os) → g js ≡ Some w
  second_tells js a = k.tells js (λ n e.
      a n (among_append ns ks n ∙ or_right (is_among ns n) (is_among ks n) e)
      ∙ lookup_append n ms os
      ∙ ap (later_or (lookup n os)) (lookup_none n ms (not_among ns n ms h.named (differ_apart ns ks n d e)))
      ∙ later_none (lookup n os))

  both_named : (n : List ℕ) → is_among (names_of (ms ++ os)) n ≡ true → is_among (ns ++ ks) n ≡ true
  both_named n e = among_append ns ks n ∙ go (is_among (names_of ms) n) refl
    where
      i : (is_among (names_of ms) n || is_among (names_of os) n) ≡ true
      i = sym (among_append (names_of ms) (names_of os) n) ∙ ap (λ l. is_among l n) (sym (names_append ms os)) ∙ e

      go : (b : Bool) → is_among (names_of ms) n ≡ b → (is_among ns n || is_among ks n) ≡ true
      go true q = or_left (is_among ns n) (is_among ks n) (h.named n q)
      go false q = or_right (is_among ns n) (is_among ks n) (k.named n (ap (λ b. b || is_among (names_of os) n) (sym q) ∙ i))

  both_distinct : differ (names_of (ms ++ os)) ≡ true
  both_distinct = ap differ (names_append ms os) ∙ differ_both (names_of ms) (names_of os) h.distinct k.distinct
      (λ n e. not_among ks n os k.named (apart_right ns ks n d (h.named n e)))

  pub both_tell : {U : Type 0} (told : Members → Option U) (u : U) → ((js : Members) → f js ≡ Some v → g js ≡ Some w → told js ≡ Some u) → Tells (ns ++ ks) told u (ms ++ os)
  both_tell told u t = record {
    tells = λ js a. t js (first_tells js a) (second_tells js a);
    named = both_named;
    distinct = both_distinct;
    unique = unique_append ms os h.unique k.unique;
  }

-- an object of members
pub object_unique : {W : Type 0} (ns : List (List ℕ)) (told : Members → Option W) (w : W) (ms : List Member) → Tells ns told w ms → HasUniqueKeys (object (members_from ms))
object_unique ns told w ms h = (differ_distinct (names_of ms) h.distinct, h.unique)

pub object_told : {W : Type 0} (ns : List (List ℕ)) (told : Members → Option W) (w : W) (ms : List Member) → Tells ns told w ms → told (members_from ms) ≡ Some w
object_told ns told w ms h = h.tells (members_from ms) (λ n e. refl)

-- no members, and one
pub none_tell : {W : Type 0} (n : List ℕ) (told : Members → Option W) (w : W) → ((js : Members) → get_member n js ≡ None → told js ≡ Some w) → Tells (n ∷ []) told w []
none_tell n told w t = record {
  tells = λ js a. t js (a n (or_left (bytes_eq n n) false (own_name n)));
  named = λ m e. absurd cc;
  distinct = refl;
  unique = tt;
}

pub one_tells : {W : Type 0} (n : List ℕ) (j : Json) (told : Members → Option W) (w : W) → HasUniqueKeys j → ((js : Members) → get_member n js ≡ Some j → told js ≡ Some w) → Tells (n ∷ []) told w ((n, j) ∷ [])
one_tells n j told w u t = record {
  tells = λ js a. t js (a n (or_left (bytes_eq n n) false (own_name n)) ∙ lookup_one n j);
  named = λ m e. e;
  distinct = refl;
  unique = (u, tt);
}
