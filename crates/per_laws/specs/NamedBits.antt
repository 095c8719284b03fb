-- Bits that have names, which mean the same whatever zero bits follow them (ITU-T X.680, 22.7).
use Rattle.std.specs.Prelude.{ℕ, ◌≡◌, ◌≤◌, true, false, ◌++◌, length, replicate}
use Rattle.rasn_types.specs.Bits.{Bits}
use Rattle.rasn_constraints.specs.Bounds.{allows, Size}
use Rattle.rasn_schema.specs.Schemas.{Schema, Parts, no_parts, part}
use Rattle.per_core.specs.Versions.{Newer}

-- bits that are one list with zero bits after the one or the other
pub record MeanTheSame (bs cs : Bits) : Type 0 where
  pub here : ℕ
  pub there : ℕ
  pub same : bs ++ replicate here false ≡ cs ++ replicate there false

-- X.691 16.2: bits whose count a size allows, and of which there are no more than of others
pub record IsFewest (size : Size) (these others : Bits) : Type 0 where
  pub allowed : allows size (length these) ≡ true
  pub few : length these ≤ length others

unfoldable mutual
  -- X.680 22.1: a type whose bits have no names, at every depth
  pub without_names : Schema → Schema
  without_names (Schema.bit_string size mark named) = Schema.bit_string size mark false
  without_names (Schema.containing e) = Schema.containing (without_names e)
  without_names (Schema.list e size mark) = Schema.list (without_names e) size mark
  without_names (Schema.set_of e size mark) = Schema.set_of (without_names e) size mark
  without_names (Schema.sequence o ps ext adds) =
      Schema.sequence o (parts_without_names ps) ext (parts_without_names adds)
  without_names (Schema.choice ps adds ext) = Schema.choice (parts_without_names ps) (parts_without_names adds) ext
  without_names s = s

  -- parts, additions or alternatives whose bits have no names
  pub parts_without_names : Parts → Parts
  parts_without_names no_parts = no_parts
  parts_without_names (part t p s ps) = part t p (without_names s) (parts_without_names ps)

-- X.680 52: one type is a newer version of another, save that bits may have names in either alone
abbrev pub NewerButForNames : Schema → Schema → Type 0
NewerButForNames newer older = Newer (without_names newer) (without_names older)

-- the same of types, at every number of levels
abbrev pub NewerTypeButForNames : (ℕ → Schema) → (ℕ → Schema) → Type 0
NewerTypeButForNames newer older = (n : ℕ) → NewerButForNames (newer n) (older n)
