-- What is before the extension marker of a record, and what is after it (ITU-T X.691, 19): one component, and a list of
-- them, as cells write and read them.
use Rattle.std.specs.Prelude.{ℕ, Result, List, Option}
use Rattle.rasn_types.specs.Values.{Side, root, added, Value}
use Rattle.rasn_schema.specs.Schemas.{Tag, TagTree, leaf, Presence, Schema, Parts}
use Rattle.rasn_schema.specs.Fields.{Shape}
use Rattle.rasn_traits.specs.Additions.{WritesAdditions}
use Rattle.rasn_traits.specs.AdditionsRead.{TakesAdditions}
use Rattle.rasn_traits.specs.Calls.{DecoderRules, EncoderRules}
use Rattle.rasn_traits.specs.Optionals.{ReadsComponent}
use Rattle.rasn_traits.specs.Scopes.{TakesParts, WritesParts}
use Rattle.rasn_record.specs.Lists.{first_tree}
use Rattle.rasn_record.specs.OneAddition.{ReadsOneAddition, WritesAddition}
use Rattle.rasn_record.specs.Slots.{IsComponent, WritesComponent}
use Rattle.rasn_record.specs.Trees.{first_tree_by}

-- X.680 25.1: addition groups are after the marker alone
abbrev pub MayBeAt : Side → Presence → Type 0
MayBeAt root p = IsComponent p
MayBeAt added p = Unit {0}

-- what isn't a group may be on each side
pub on_each : (side : Side) (p : Presence) → IsComponent p → MayBeAt side p
on_each root p h = h
on_each added p h = tt

-- the tags of a component, by the first of some fields; where there is none, the tag of a type
abbrev pub tree_at : Side → Tag → List Shape → TagTree
tree_at root own fs = first_tree (leaf own) fs
tree_at added own fs = first_tree_by own fs

-- A call that writes a component, absent or there, at each depth that holds it.
abbrev pub WritesAt : {E X : Type 0} → Side → EncoderRules E X → Presence → (ℕ → Schema) → ℕ → Option Value → X
    → Result (Unit {0}) E → X → Type 0
WritesAt root = WritesComponent
WritesAt added = WritesAddition

-- A call that writes components in turn, at each depth that holds them.
abbrev pub WritesAllAt : {E X : Type 0} → Side → EncoderRules E X → (ℕ → Parts) → ℕ → List (Option Value) → X
    → Result (Unit {0}) E → X → Type 0
WritesAllAt root = WritesParts
WritesAllAt added = WritesAdditions

-- A call that reads a component of a presence, under a tag.
abbrev pub ReadsAt : {E S T : Type 0} → Side → DecoderRules E S → TagTree → Presence → Schema → (T → Option Value) → S
    → Result T E → S → Type 0
ReadsAt root rules k = ReadsComponent rules
ReadsAt added rules k = ReadsOneAddition rules k

-- A call that reads components in turn, to the levels left.
abbrev pub ReadsAllAt : {E S T : Type 0} → Side → DecoderRules E S → (ℕ → Parts) → (T → List (Option Value)) → S
    → Result T E → S → Type 0
ReadsAllAt root = TakesParts
ReadsAllAt added = TakesAdditions
