-- What the lists of a record's fields and constraints state of its components, from one of these on.
use Rattle.std.specs.Prelude.{◌≡◌, ◌≢◌, ◌≤◌, ℕ, max, List, [], ◌∷◌, Option, Some, None}
use Rattle.std.proofs.Common.{arith}
use Rattle.std.specs.Borrow.{Bor}
use Rattle.rasn_constraints.specs.Constraints.{Effective, effective}
use Rattle.rasn_constraints.specs.declared.constraints.Constraint.{Constraint}
use Rattle.rasn_schema.specs.Components.{TypeLists, added_parts, root_parts}
use Rattle.rasn_schema.specs.Schemas.{Parts, Tag, TagTree, no_parts}
use Rattle.rasn_schema.specs.Fields.{Shape}

-- those after the first
abbrev pub behind : {A : Type 0} → List A → List A
behind [] = []
behind (x ∷ xs) = xs

-- the tag of the first field; where there is none, that of a type
abbrev pub first_tag : Tag → List Shape → Tag
first_tag own [] = own
first_tag own (f ∷ fs) = f.tag

-- the tags of a field, or else those of a type
abbrev pub tree_or : TagTree → Option TagTree → TagTree
tree_or own None = own
tree_or own (Some t) = t

-- the tags of the first field; where there is none, those of a type
abbrev pub first_tree : TagTree → List Shape → TagTree
first_tree own [] = own
first_tree own (f ∷ fs) = tree_or own f.tree

-- constraints that are in the place of a type's own: those of a list, where it has some
abbrev pub given : List Constraint → Option Effective
given [] = None
given (c ∷ cs) = Some (effective (c ∷ cs))

-- those that the first component is given
abbrev pub first_given : List (Bor (List Constraint)) → Option Effective
first_given [] = None
first_given (b ∷ bs) = given b.now

-- root components are these, and there are no additions
abbrev pub ArePlain : TypeLists → (ℕ → Parts) → Type 0
ArePlain cs parts = (n : ℕ) → (root_parts cs n ≡ parts n) × (added_parts cs n ≡ no_parts)

-- the greatest of some numbers of levels
abbrev pub deepest : List ℕ → ℕ
deepest [] = 0
deepest (l ∷ ls) = max l (deepest ls)

-- the levels of root components and of additions; where there are no additions, those of the root components
abbrev pub deeper_of : ℕ → ℕ → ℕ
deeper_of k m = max m k

-- A depth holds components: it is that of the deepest, or each is within it.
abbrev pub Holds : ℕ → ℕ → Type 0 → Type 0
Holds depth deepest each = depth ≢ deepest → each

-- what is asked of a number of levels that holds components
pub record Asked : Type 1 where
  pub Of : ℕ → Type 0

-- that it is at least another one
abbrev pub at_least : ℕ → Asked
at_least l = record { Of = λ n. l ≤ n }

-- nothing
abbrev pub nothing_asked : Asked
nothing_asked = record { Of = λ n. Unit {0} }

-- both of these
abbrev pub both_asked : Asked → Asked → Asked
both_asked a b = record { Of = λ n. a.Of n × b.Of n }

-- two numbers of levels that are at most this one
pub both_within : {k l n : ℕ} → k ≤ n → l ≤ n → max k l ≤ n
both_within h g = omega arith

-- each of some numbers of levels is at most this one
abbrev pub AreWithin : ℕ → List ℕ → Type 0
AreWithin depth [] = Unit {0}
AreWithin depth (l ∷ ls) = (l ≤ depth) × AreWithin depth ls
