-- Which open types are short enough for their octets to be counted (ITU-T X.691, 11.2, 11.9).
use Rattle.std.specs.Prelude.{ℕ, zero, suc, ◌≡◌, true, List, length, Option, Some}
use Rattle.rasn_types.specs.Bits.{Bits}
use Rattle.rasn_types.specs.Values.{Value}
use Rattle.rasn_types.specs.Variants.{Variant}
use Rattle.rasn_constraints.specs.Bounds.{allows, any_size}
use Rattle.rasn_schema.specs.Schemas.{Schema, Parts, no_parts, part}
use Rattle.per_core.specs.Canon.{canon}
use Rattle.per_core.specs.Writers.{complete}
use Rattle.per_core.specs.ItemCounts.{EachElement, EachSlot, OfAlternative, OfParts}

-- X.691 11.2: bits, where they are there, are the contents of an open type of no more octets than `usize::MAX` (this
-- project's limit)
abbrev pub IsCountable : Option Bits → Type 0
IsCountable o = (bits : Bits) → o ≡ Some bits → allows any_size (length (complete bits)) ≡ true

unfoldable mutual
  unfolding canon

  -- each open type in which an addition or an added alternative of a value stands is so, and all octets that contain a
  -- value, at any depth
  pub AreCountable : Variant → Schema → Value → Type 0
  AreCountable a (Schema.containing e) v = IsCountable (canon a e v 0) × AreCountable a e v
  AreCountable a (Schema.list e size mark) v = EachElement (AreCountable a e) v
  AreCountable a (Schema.set_of e size mark) v = EachElement (AreCountable a e) v
  AreCountable a (Schema.sequence o ps ext adds) v = OfParts (PartsCountable a ps) (AdditionsCountable a adds) v
  AreCountable a (Schema.choice ps adds ext) v = OfAlternative (AlternativeCountable a ps) (AddedCountable a adds) v
  AreCountable a _ v = Unit {0}

  -- each open type in a record's root parts is so
  pub PartsCountable : Variant → Parts → List (Option Value) → Type 0
  PartsCountable a no_parts ss = Unit {0}
  PartsCountable a (part t p s ps) ss = EachSlot (AreCountable a s) (PartsCountable a ps) ss

  -- of its additions
  pub AdditionsCountable : Variant → Parts → List (Option Value) → Type 0
  AdditionsCountable a no_parts ss = Unit {0}
  AdditionsCountable a (part t p s ps) ss =
      EachSlot (λ v. IsCountable (canon a s v 0) × AreCountable a s v) (AdditionsCountable a ps) ss

  -- of the root alternative at a place
  pub AlternativeCountable : Variant → Parts → ℕ → Value → Type 0
  AlternativeCountable a no_parts i v = Unit {0}
  AlternativeCountable a (part t p s ps) zero v = AreCountable a s v
  AlternativeCountable a (part t p s ps) (suc i) v = AlternativeCountable a ps i v

  -- the open type of the added alternative at a place is so, and so is each in its value
  pub AddedCountable : Variant → Parts → ℕ → Value → Type 0
  AddedCountable a no_parts i v = Unit {0}
  AddedCountable a (part t p s ps) zero v = IsCountable (canon a s v 0) × AreCountable a s v
  AddedCountable a (part t p s ps) (suc i) v = AddedCountable a ps i v
