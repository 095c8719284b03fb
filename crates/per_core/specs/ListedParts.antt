-- What a SET's parts are as they are listed, from what they are in the order in which they are written (ITU-T X.691,
-- 21.1).
use Rattle.std.specs.Prelude.{ℕ, zero, suc, ◌≡◌, List, [], ◌∷◌, Option, length}
use Rattle.rasn_types.specs.Values.{Value}
use Rattle.rasn_schema.specs.Orders.{how_many_less, canonised_slots}
use Rattle.rasn_schema.specs.Structures.{record_value}
use Rattle.rasn_schema.specs.Schemas.{Tag, Parts, tags, count}

-- y after the first of a list, or alone
abbrev pub put_second {ℓ} : {A : Type ℓ} → A → List A → List A
put_second y [] = y ∷ []
put_second y (x ∷ xs) = x ∷ y ∷ xs

-- a list with what is at a place, or at its end, in front
abbrev pub brought_forward {ℓ} : {A : Type ℓ} → ℕ → List A → List A
brought_forward zero xs = xs
brought_forward (suc n) [] = []
brought_forward (suc n) (x ∷ xs) = put_second x (brought_forward n xs)

-- a list of which all but the first is changed
abbrev pub after_first {ℓ} : {A : Type ℓ} → (List A → List A) → List A → List A
after_first f [] = []
after_first f (x ∷ xs) = x ∷ f xs

-- X.680 8.6: what hangs on each tag, from what it is in ascending order of the tags
abbrev pub as_listed {ℓ} : {A : Type ℓ} → List Tag → List A → List A
as_listed [] xs = xs
as_listed (t ∷ ts) xs = after_first (as_listed ts) (brought_forward (how_many_less t ts) xs)

-- X.691 21.1: what parts are as they are listed, from what they are in ascending order of their smallest tags
abbrev pub listed_slots : Parts → List (Option Value) → List (Option Value)
listed_slots ps rs = as_listed (tags ps) rs

-- a record whose root parts are those of a SET in ascending order of their smallest tags, and of one SET's value alone
pub record InOrder (ps : Parts) (v : Value) : Type 0 where
  pub root : List (Option Value)
  pub added : List (Option Value)
  pub counted : length root ≡ count ps
  pub is : v ≡ record_value (canonised_slots ps root) added
  pub only : (rs xs : List (Option Value)) → v ≡ record_value (canonised_slots ps rs) xs → (rs ≡ root) × (xs ≡ added)

-- a record with as many root parts as a SET has
pub record AsListed (ps : Parts) (v : Value) : Type 0 where
  pub root : List (Option Value)
  pub added : List (Option Value)
  pub counted : length root ≡ count ps
  pub is : v ≡ record_value root added
