-- An addition whose tags are an untagged CHOICE's is named by the smallest of them.
use Rattle.std.proofs.Common.{eqb, eqb-true, ◌≡◌, refl, sym, subst, ap₂, ◌⊎◌, inl, inr, ℕ, Bool, true, false, cond, ◌&&◌, List, [], ◌∷◌, Option, Some, None}
use Rattle.rasn_schema.specs.Fields.{Shape}
use Rattle.rasn_schema.specs.Structures.{field_tag}
use Rattle.rasn_schema.specs.Lawful.{same_tag}
use Rattle.rasn_schema.specs.Schemas.{Tag, TagTree, TagTrees, leaf, one_of, smallest, Presence, Schema}
use Rattle.rasn_traits.specs.AdditionsRead.{FaultyAddition, faulty_added, faulty_lacking, ReadsAddition}
use Rattle.rasn_traits.specs.Calls.{DecoderRules, Refuses}
use Rattle.rasn_record.specs.Lists.{first_tag}
use Rattle.rasn_record.specs.Trees.{first_tree_by, tree_by}

both : (a b : Bool) → (a && b) ≡ true → (a ≡ true) × (b ≡ true)
both true true e = (refl, refl)
both true false e = absurd cc
both false b e = absurd cc

-- tags that pass the test are one
one_tag : (t u : Tag) → same_tag t u ≡ true → t ≡ u
one_tag t u e =
    let p = both (eqb t.class u.class) (eqb t.number u.number) e in
    ap₂ (λ (c : ℕ) (n : ℕ). let x : Tag = record { class = c; number = n } in x) (eqb-true t.class u.class p.0) (eqb-true t.number u.number p.1)

by_test : (b : Bool) (t : Tag) (u : TagTree) (us : TagTrees) → same_tag t (smallest (one_of u us)) ≡ b → field_tag (cond b (one_of u us) (leaf t)) ≡ t
by_test true t u us e = sym (one_tag t (smallest (one_of u us)) e)
by_test false t u us e = refl

-- a field goes by the tag that it states
tree_by-tag : (t : Tag) (k : Option TagTree) → field_tag (tree_by t k) ≡ t
tree_by-tag t None = refl
tree_by-tag t (Some (leaf u)) = refl
tree_by-tag t (Some (one_of u us)) = by_test (same_tag t (smallest (one_of u us))) t u us refl

pub first_tree_by-tag : (own : Tag) (fs : List Shape) → field_tag (first_tree_by own fs) ≡ first_tag own fs
first_tree_by-tag own [] = refl
first_tree_by-tag own (f ∷ fs) = tree_by-tag f.tag f.tree

module _ {E S : Type 0} (rules : DecoderRules E S) where
  fault_by : {e : E} {p : Presence} {c : Schema} {s : S} (k l : TagTree) → field_tag k ≡ field_tag l → FaultyAddition rules e k p c s → FaultyAddition rules e l p c s
  fault_by k l e (faulty_added h) = faulty_added h
  fault_by {e = d} k l e (faulty_lacking {t = t} h m) = faulty_lacking h (subst (λ u. rules.lacking u d t) e m)

  -- an addition that isn't read is refused alike under all tags by which it goes by the same one
  pub unread_by : {A : Type 0} {p : Presence} {c : Schema} {s : S} {e : E} (k l : TagTree) → field_tag k ≡ field_tag l
      → A ⊎ Refuses (ReadsAddition rules p c) (λ e. FaultyAddition rules e k p c) e s → A ⊎ Refuses (ReadsAddition rules p c) (λ e. FaultyAddition rules e l p c) e s
  unread_by k l e (inl a) = inl a
  unread_by k l e (inr r) = inr (record { nothing = r.nothing; stands = fault_by k l e r.stands })
