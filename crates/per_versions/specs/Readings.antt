-- What a type's own reader, an older type's and a newer type's read of a value (ITU-T X.680, 52; X.691, 19.9).
use Rattle.std.specs.Prelude.{ℕ, ◌+◌, ◌≡◌, ◌≤◌, false, List, Some}
use Rattle.rasn_types.specs.Values.{Value}
use Rattle.rasn_types.specs.Variants.{Variant}
use Rattle.rasn_schema.specs.Schemas.{Schema}
use Rattle.rasn_schema.specs.Normal.{normal}
use Rattle.per_core.specs.Canon.{bytes}
use Rattle.per_core.specs.Versions.{project, widen}
use Rattle.per_laws.specs.Levels.{levels_of}
use Rattle.per_laws.specs.Written.{writes_cut}

-- a depth at which every type's tree holds all of a value: two levels more than the value has
abbrev pub depth_of : Value → ℕ
depth_of v = levels_of v + 2

-- X.691 19.9: the normal form of a type's value, along a tree that holds the value
abbrev pub normal_form : (ℕ → Schema) → Value → Value
normal_form type v = normal (type (depth_of v)) v

-- X.691 11.1: octets are the canonical bytes of a value as it is, along each tree that holds it
abbrev pub AreCanonical : Variant → (ℕ → Schema) → Value → List ℕ → Type 0
AreCanonical a type v octets = (n : ℕ) → depth_of v ≤ n → bytes a (type n) v ≡ Some octets

-- X.680 52: what an older type sees of a newer type's value, along trees that hold the value
abbrev pub IsProjection : (ℕ → Schema) → (ℕ → Schema) → Value → Value → Type 0
IsProjection newer older v w = project (newer (depth_of v)) (older (depth_of v)) v ≡ Some w

-- X.680 52: what a newer type sees of an older type's value, along trees that hold what it sees
abbrev pub IsWidening : (ℕ → Schema) → (ℕ → Schema) → Value → Value → Type 0
IsWidening newer older v w = widen (newer (depth_of w)) (older (depth_of w)) v ≡ Some w

-- nothing that is written of a value lies deeper than a reader's 128 levels (this project's limit); it passes over the
-- additions that it doesn't know
abbrev pub IsInReach : (ℕ → Schema) → (ℕ → Schema) → Value → Type 0
IsInReach reader writer v = writes_cut (reader 128) (writer 128) v ≡ false

-- what is read of a value's canonical octets: by its own type the normal form
pub record IsReadBack (type : ℕ → Schema) (v w : Value) : Type 0 where
  pub normal : w ≡ normal_form type v
  pub in_reach : IsInReach type type (normal_form type v)

-- by an older type the projection of the normal form, which isn't normalised again
pub record IsReadByOlder (newer older : ℕ → Schema) (v w : Value) : Type 0 where
  pub projection : IsProjection newer older (normal_form newer v) w
  pub in_reach : IsInReach older newer (normal_form newer v)

-- X.680 52: what is written is read by a newer type as the widening of the normal form
pub record IsReadByNewer (newer older : ℕ → Schema) (v w : Value) : Type 0 where
  pub widening : IsWidening newer older (normal_form older v) w
  pub in_reach : IsInReach newer older (normal_form older v)
