-- What becomes of each of a list, where something becomes of all.
use Rattle.std.specs.Prelude.{List, [], ◌∷◌, Option, Some, None}

-- a first one and others, where all are there
abbrev pub joined : {A : Type 0} → Option A → Option (List A) → Option (List A)
joined None xs = None
joined (Some x) None = None
joined (Some x) (Some xs) = Some (x ∷ xs)

-- what becomes of each of a list, or none
abbrev pub all_of : {A B : Type 0} → (A → Option B) → List A → Option (List B)
all_of f [] = Some []
all_of f (x ∷ xs) = joined (f x) (all_of f xs)
