-- A SET by the list of its components (ITU-T X.680, 27), and these in the order in which they are written (X.691,
-- 21.1).
use Rattle.std.specs.Prelude.{◌≡◌, ℕ, zero, suc, false, List, [], ◌∷◌, Option, Some, refl}
use Rattle.rasn_types.specs.Values.{Value}
use Rattle.rasn_types.specs.declared.types.TheConstants.Tag.{SET}
use Rattle.rasn_schema.specs.Orders.{canonised_at, canonised_slots, how_many_less}
use Rattle.rasn_schema.specs.Components.{Component, TypeLists, added_parts, components_after, components_levelled}
use Rattle.rasn_schema.specs.Components.{has_marker, root_parts, universal}
use Rattle.rasn_schema.specs.Levels.{Levelled, record_levelled}
use Rattle.rasn_schema.specs.Records.{record_at}
use Rattle.rasn_schema.specs.Structures.{record_value}
use Rattle.rasn_schema.specs.Schemas
use Rattle.rasn_schema.specs.Schemas.{by_tag, Parts, Schema, Tag}
use Rattle.rasn_schema.specs.Fields.{tagged}
use Rattle.rasn_schema.specs.Tags.{AreTagsOf, IsTagOf, IsTreeAt}

-- a SET of these components, to a number of levels
abbrev pub set_at : TypeLists → ℕ → Schema
set_at cs = record_at by_tag (root_parts cs) (has_marker cs.behind) (added_parts cs)

-- what a SET without additions is, of what its components are
abbrev pub set_value : List (Option Value) → Value
set_value rs = record_value rs []

pub set_levelled : (cs : TypeLists) → Levelled (set_at cs)
set_levelled cs = record_levelled (components_levelled cs.before) (components_levelled (components_after cs.behind))

-- X.680 8.4: SET is the tag of each SET
pub set_tag : (cs : TypeLists) → IsTagOf SET (set_at cs)
set_tag cs zero = refl
set_tag cs (suc n) = refl

-- its tags are that one alone
pub set_stated : (cs : TypeLists) → AreTagsOf SET (Some (tagged SET)) false (set_at cs)
set_stated cs zero = tt
set_stated cs (suc n) = (refl, refl)

-- it is the tree of each
pub set_fits : (cs : TypeLists) → IsTreeAt (tagged SET) (set_at cs)
set_fits cs zero = refl
set_fits cs (suc n) = refl

-- a component that is a SET
abbrev pub set : TypeLists → Component
set cs = record {
  tags = universal 17;
  presence = Schemas.required;
  schema = set_at cs;
  levelled = set_levelled cs;
  fits = set_fits cs;
}

-- the root components in ascending order of their smallest tags, to a number of levels
abbrev pub parts_in_order : TypeLists → ℕ → Parts
parts_in_order cs = canonised_at (root_parts cs)

-- what the root components are, in that order
abbrev pub slots_in_order : TypeLists → List (Option Value) → List (Option Value)
slots_in_order cs rs = canonised_slots (root_parts cs 0) rs

-- X.680 8.6: tags in ascending order: none is less than one that is before it
abbrev pub AreAscending : List Tag → Type 0
AreAscending [] = Unit {0}
AreAscending (t ∷ ts) = (how_many_less t ts ≡ 0) × AreAscending ts
