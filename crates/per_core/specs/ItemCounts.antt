-- How many items a length determinant counts of a value, and of each value within it, at any depth; and how many some
-- bits may stand for (ITU-T X.691, 11.9).
use Rattle.std.specs.Prelude.{ℕ, ◌+◌, ◌*◌, length, zero, suc, ◌≤◌, ◌⊎◌, List, [], ◌∷◌, Option, Some, None}
use Rattle.rasn_types.specs.Values.{Value, octets, bits, characters, elements, bag, values, fields, alternative, root}
use Rattle.rasn_types.specs.Values.{added, slots}
use Rattle.rasn_schema.specs.Schemas.{Schema, Parts, no_parts, part}
use Rattle.per_core.specs.Basic.{IsLeftOut}

-- X.691 11.9: how many items a length determinant counts of a value itself, and not of its parts; no other values than
-- octets, bits, characters and lists are counted
abbrev pub item_count : Value → ℕ
item_count (octets os) = length os
item_count (bits bs) = length bs
item_count (characters cs) = length cs
item_count (elements vs) = length (values vs)
item_count (bag vs) = length (values vs)
item_count _ = 0

-- X.691 11.9.3.3, 11.9.3.8: the most items that some bits stand for. A constrained length, which may take no bits,
-- counts 65535 at most; else each octet of lengths counts 65536 at most, which is 8192 a bit.
abbrev pub most_items : ℕ → ℕ
most_items taken = 65535 + 8192 * taken

-- a fact of each member of a list
abbrev pub Each : {X : Type 0} → (X → Type 0) → List X → Type 0
Each P [] = Unit {0}
Each P (x ∷ xs) = P x × Each P xs

-- a fact of each element of a list or bag
abbrev pub EachElement : (Value → Type 0) → Value → Type 0
EachElement P (elements vs) = Each P (values vs)
EachElement P (bag vs) = Each P (values vs)
EachElement P _ = Unit {0}

-- facts of a record's root parts and of its additions
abbrev pub OfParts : (List (Option Value) → Type 0) → (List (Option Value) → Type 0) → Value → Type 0
OfParts P Q (fields r x) = P (slots r) × Q (slots x)
OfParts P Q _ = Unit {0}

-- facts of the alternative that is chosen, of the root or an addition
abbrev pub OfAlternative : (ℕ → Value → Type 0) → (ℕ → Value → Type 0) → Value → Type 0
OfAlternative P Q (alternative root i v) = P i v
OfAlternative P Q (alternative added i v) = Q i v
OfAlternative P Q _ = Unit {0}

-- a fact of the first part, where it is there, and a fact of the others
abbrev pub EachSlot : (Value → Type 0) → (List (Option Value) → Type 0) → List (Option Value) → Type 0
EachSlot P Q [] = Unit {0}
EachSlot P Q (None ∷ xs) = Q xs
EachSlot P Q (Some v ∷ xs) = P v × Q xs

unfoldable mutual
  -- X.691 11.9: a value has n items at most, and so has each value within it
  pub HasAtMost : ℕ → Schema → Value → Type 0
  HasAtMost n (Schema.containing e) v = HasAtMost n e v
  HasAtMost n (Schema.list e size mark) v = (item_count v ≤ n) × EachElement (HasAtMost n e) v
  HasAtMost n (Schema.set_of e size mark) v = (item_count v ≤ n) × EachElement (HasAtMost n e) v
  HasAtMost n (Schema.sequence o ps ext adds) v = (item_count v ≤ n)
      × OfParts (PartsHaveAtMost n ps) (PartsHaveAtMost n adds) v
  HasAtMost n (Schema.choice ps adds ext) v =
      (item_count v ≤ n) × OfAlternative (AlternativeHasAtMost n ps) (AlternativeHasAtMost n adds) v
  HasAtMost n _ v = item_count v ≤ n

  -- X.691 19.5: the same of a record's parts, but for a default that stands for an absent part
  pub PartsHaveAtMost : ℕ → Parts → List (Option Value) → Type 0
  PartsHaveAtMost n no_parts ss = Unit {0}
  PartsHaveAtMost n (part t p s ps) ss = EachSlot (λ v. IsLeftOut p (Some v) ⊎ HasAtMost n s v)
      (PartsHaveAtMost n ps) ss

  -- the value of the alternative at a place has at most n items, and so has each value within it
  pub AlternativeHasAtMost : ℕ → Parts → ℕ → Value → Type 0
  AlternativeHasAtMost n no_parts i v = Unit {0}
  AlternativeHasAtMost n (part t p s ps) zero v = HasAtMost n s v
  AlternativeHasAtMost n (part t p s ps) (suc i) v = AlternativeHasAtMost n ps i v
