-- Names compared one by one.
use Rattle.std.proofs.Common.{◌≡◌, refl, sym, ap, ap₂, ◌∙◌, ◌⊎◌, inl, inr, ℕ, ◌-◌, ◌≤◌, Bool, true, false, not, ◌&&◌, ◌||◌, List, [], ◌∷◌, ◌++◌, map, length, drop, take, take_all, get_or, arith, append-nil, Option, Some, None}
use Rattle.std.specs.Prelude.{flat_map, string_bytes}
use Rattle.std.specs.List.{list_any}
use Rattle.std.specs.Str.{bytes_eq}
use Rattle.rasn_dynamic.specs.Types.{behind}
use Rattle.rasn_dynamic.specs.declared.types.Component.{Component}
use Rattle.rasn_dynamic.specs.declared.types.Kind.{Kind}
use Rattle.rasn_dynamic.specs.declared.types.Record.{Record}
use Rattle.rasn_dynamic_jer.specs.DistinctNames.{addition_names, component_names, differ, is_among, member_names}
use Rattle.rasn_dynamic_jer.specs.Shown.{group_in}
use Rattle.rasn_dynamic_jer.specs.FromJson.{is_addition, is_component, is_member}
use Rattle.rasn_dynamic_jer.proofs.Named.{among_append, or_right}

-- a name that none of those after it has, and none of others
pub differ_onward : (xs ys : List (List ℕ)) (x : List ℕ) (r : Bool) → is_among xs x ≡ false → is_among ys x ≡ false → (r && differ ys) ≡ differ (xs ++ ys) → (r && differ ys) ≡ differ (x ∷ xs ++ ys)
differ_onward xs ys x r e f h = h ∙ sym (ap (λ b. not b && differ (xs ++ ys)) (among_append xs ys x ∙ ap (λ b. b || is_among ys x) e ∙ f))

-- a name that one has
pub one_after : (xs ys : List (List ℕ)) (x : List ℕ) → is_among xs x ≡ true → false ≡ differ (x ∷ xs ++ ys)
one_after xs ys x e = sym (ap (λ b. not b && differ (xs ++ ys)) (among_append xs ys x ∙ ap (λ b. b || is_among ys x) e))

pub one_other : (xs ys : List (List ℕ)) (x : List ℕ) → is_among ys x ≡ true → false ≡ differ (x ∷ xs ++ ys)
one_other xs ys x e = sym (ap (λ b. not b && differ (xs ++ ys)) (among_append xs ys x ∙ or_right (is_among xs x) (is_among ys x) e))

-- no others
pub differ_alone : (xs : List (List ℕ)) (r : Bool) → (r && true) ≡ differ (xs ++ []) → r ≡ differ xs
differ_alone xs r h = sym (and_true r) ∙ h ∙ ap differ (append-nil xs)
  where
    and_true : (b : Bool) → (b && true) ≡ b
    and_true true = refl
    and_true false = refl

pub any_name : {N : Type 0} (f : N → List ℕ) (ns : List N) (k : List ℕ) → list_any (λ n. bytes_eq (f n) k) ns ≡ is_among (map f ns) k
any_name f [] k = refl
any_name f (n ∷ ns) k = ap (λ b. bytes_eq (f n) k || b) (any_name f ns k)

-- names of components and additions
pub component_is : (cs : List Component) (n : List ℕ) → is_among (component_names cs) n ≡ is_component cs n
component_is [] n = refl
component_is (c ∷ cs) n = ap (λ b. bytes_eq (string_bytes c.name) n || b) (component_is cs n)

addition_is : (o : Option Record) (c : Component) (n : List ℕ) → is_among (addition_names o c) n ≡ is_addition o c n
addition_is None c n = or_false (bytes_eq (string_bytes c.name) n)
  where
    or_false : (b : Bool) → (b || false) ≡ b
    or_false true = refl
    or_false false = refl
addition_is (Some r) c n = component_is r.root.items n

module _ (ts : List Kind) where
  abbrev pub all_names : List Component → List (List ℕ)
  all_names cs = flat_map (λ c. addition_names (group_in ts c) c) cs

  pub additions_are : (cs : List Component) (n : List ℕ) → is_among (all_names cs) n ≡ list_any (λ c. is_addition (group_in ts c) c n) cs
  additions_are [] n = refl
  additions_are (c ∷ cs) n = among_append (addition_names (group_in ts c) c) (all_names cs) n ∙ ap₂ (λ a b. a || b) (addition_is (group_in ts c) c n) (additions_are cs n)

  -- the first of some components, and those after it
  abbrev after_first : List Component → List Component
  after_first cs = take (length cs - 1) (drop 1 cs)

  are_after : (c : Component) (cs : List Component) → after_first (c ∷ cs) ≡ cs
  are_after c cs = take_all (length (c ∷ cs) - 1) cs (omega arith)

  pub name_again : (cs ds : List Component) (c : Component) (s : List ℕ) → 1 ≤ length cs → c ≡ get_or cs 0 c → s ≡ string_bytes c.name
      → (is_component (after_first cs) s ≡ true) ⊎ (list_any (λ a. is_addition (group_in ts a) a s) ds ≡ true) → false ≡ differ (component_names cs ++ all_names ds)
  name_again [] ds c s l e n h = absurd (omega (arith, l))
  name_again (d ∷ cs) ds c s l e n (inl h) =
      one_after (component_names cs) (all_names ds) (string_bytes d.name) (ap (λ (x : Component). is_among (component_names cs) (string_bytes x.name)) (sym e) ∙ ap (is_among (component_names cs)) (sym n) ∙ component_is cs s ∙ ap (λ ks. is_component ks s) (sym (are_after d cs)) ∙ h)
  name_again (d ∷ cs) ds c s l e n (inr h) =
      one_other (component_names cs) (all_names ds) (string_bytes d.name) (ap (λ (x : Component). is_among (all_names ds) (string_bytes x.name)) (sym e) ∙ ap (is_among (all_names ds)) (sym n) ∙ additions_are ds s ∙ h)

  pub name_once : (cs ds : List Component) (c : Component) (s : List ℕ) (r : Bool) → 1 ≤ length cs → c ≡ get_or cs 0 c → s ≡ string_bytes c.name
      → is_component (after_first cs) s ≡ false → list_any (λ a. is_addition (group_in ts a) a s) ds ≡ false
      → (r && differ (all_names ds)) ≡ differ (component_names (after_first cs) ++ all_names ds) → (r && differ (all_names ds)) ≡ differ (component_names cs ++ all_names ds)
  name_once [] ds c s r l e n h i k = absurd (omega (arith, l))
  name_once (d ∷ cs) ds c s r l e n h i k =
      differ_onward (component_names cs) (all_names ds) (string_bytes d.name) r
      (ap (λ (x : Component). is_among (component_names cs) (string_bytes x.name)) (sym e) ∙ ap (is_among (component_names cs)) (sym n) ∙ component_is cs s ∙ ap (λ ks. is_component ks s) (sym (are_after d cs)) ∙ h)
      (ap (λ (x : Component). is_among (all_names ds) (string_bytes x.name)) (sym e) ∙ ap (is_among (all_names ds)) (sym n) ∙ additions_are ds s ∙ i) (k ∙ ap (λ ks. differ (component_names ks ++ all_names ds)) (are_after d cs))

  -- an addition that is no group
  pub addition_alone : (ds : List Component) (a : Component) (s : List ℕ) (o : Option Record) (b : Bool) → o ≡ None → s ≡ string_bytes a.name
      → b ≡ list_any (λ c. is_addition (group_in ts c) c s) ds → (not b && differ (all_names ds)) ≡ differ (addition_names o a ++ all_names ds)
  addition_alone ds a s None b e n h = ap (λ x. not x && differ (all_names ds)) (h ∙ sym (additions_are ds s) ∙ ap (is_among (all_names ds)) n)
  addition_alone ds a s (Some g) b e n h = absurd cc

  pub member_is : (r : Record) (n : List ℕ) → is_among (member_names ts r) n ≡ is_member ts r n
  member_is r n = among_append (component_names r.root.items) (all_names (behind r.additions)) n ∙ ap₂ (λ a b. a || b) (component_is r.root.items n) (additions_are (behind r.additions) n)
