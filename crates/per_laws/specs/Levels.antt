-- How many levels a value has, and how deep a tree of kinds is cut off.
use Rattle.std.specs.Prelude.{ℕ, zero, suc, max}
use Rattle.rasn_types.specs.Values.{Value, elements, bag, fields, alternative, day, Values, no_values, value, Slots}
use Rattle.rasn_types.specs.Values.{no_slots, absent, there}
use Rattle.rasn_schema.specs.Schemas.{Schema, Parts, no_parts, part}

-- A list, a bag, a record and an alternative are one level above what is in them; a date is a record that holds a
-- choice (X.691, section 32).
unfoldable mutual
  pub levels_of : Value → ℕ
  levels_of (elements vs) = suc (levels_of_values vs)
  levels_of (bag vs) = suc (levels_of_values vs)
  levels_of (fields r x) = suc (max (levels_of_slots r) (levels_of_slots x))
  levels_of (alternative d i v) = suc (levels_of v)
  levels_of (day y m d) = 2
  levels_of _ = 0

  pub levels_of_values : Values → ℕ
  levels_of_values no_values = 0
  levels_of_values (value v vs) = max (levels_of v) (levels_of_values vs)

  pub levels_of_slots : Slots → ℕ
  levels_of_slots no_slots = 0
  levels_of_slots (absent ss) = levels_of_slots ss
  levels_of_slots (there v ss) = max (levels_of v) (levels_of_slots ss)

-- what holds one level below, where there is one
abbrev pub Below : (ℕ → Type 0) → ℕ → Type 0
Below f zero = Unit {0}
Below f (suc n) = f n

-- every Cut of the tree is at least n levels down
abbrev mutual
  pub Deep : ℕ → Schema → Type 0
  Deep n Schema.cut = Below (λ m. ⊥) n
  Deep n (Schema.containing e) = Deep n e
  Deep n (Schema.list e size mark) = Below (λ m. Deep m e) n
  Deep n (Schema.set_of e size mark) = Below (λ m. Deep m e) n
  Deep n (Schema.sequence o ps ext adds) = Below (λ m. DeepParts m ps × DeepParts m adds) n
  Deep n (Schema.choice ps adds ext) = Below (λ m. DeepParts m ps × DeepParts m adds) n
  Deep n _ = Unit {0}

  pub DeepParts : ℕ → Parts → Type 0
  DeepParts n no_parts = Unit {0}
  DeepParts n (part t p s ps) = Deep n s × DeepParts n ps
