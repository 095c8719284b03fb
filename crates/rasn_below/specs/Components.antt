-- The words in which a schema's author lists components, alternatives and items, those of the types of other crates
-- among them: `automatic (object_identifier ∷ set_of (size 1 to 4) (integer big any) ∷ [])`.
use Rattle.std.specs.Prelude.{ℕ, refl}
use Rattle.rasn_types.specs.Contents.{generalized, other, utc}
use Rattle.rasn_constraints.specs.declared.constraints.Constraints.{Constraints}
use Rattle.rasn_schema.specs.Schemas
use Rattle.rasn_schema.specs.Schemas.{leaf, Schema, TagTree}
use Rattle.rasn_schema.specs.Forms.{is_size_marked, size_of}
use Rattle.rasn_schema.specs.Levels.{containing_levelled}
use Rattle.rasn_traits.specs.Moments.{date_at}
use Rattle.rasn_schema.specs.Bags.{set_at, set_fits, set_levelled}
use Rattle.rasn_useful.specs.Laws.Dates.{date_fits, date_levelled}
pub use Rattle.rasn_schema.specs.Components.{Component, TypeLists, Chosen, chosen, chosen_behind, fields_in, fields_of}
pub use Rattle.rasn_schema.specs.Components.{added_parts, parts_of, root_parts, variants_listed}
pub use Rattle.rasn_schema.specs.Components.{u8, u16, u32, u64, i8, i16, i32, i64, i128, big}
pub use Rattle.rasn_schema.specs.Components.{any, ◌to◌, minus◌to◌, minus◌to_minus◌, from, from_minus, up_to}
pub use Rattle.rasn_schema.specs.Components.{up_to_minus, size◌to◌, size_from, size_up_to, extensible, of_characters}
pub use Rattle.rasn_schema.specs.Components.{universal, simple, at, under, own_tags, automatic, automatic_from}
pub use Rattle.rasn_schema.specs.Components.{extensible_own_tags, extensible_automatic, optional, default}
pub use Rattle.rasn_schema.specs.Components.{boolean, null, integer, bit_string, named_bits, octet_string}
pub use Rattle.rasn_schema.specs.Components.{enumerated, extensible_enumerated}
pub use Rattle.rasn_schema.specs.Components.{utf8_string, numeric_string, printable_string, ia5_string, visible_string}
pub use Rattle.rasn_schema.specs.Components.{bmp_string}
pub use Rattle.rasn_schema.specs.Components.{sequence, sequence_of, choice}
pub use Rattle.rasn_schema.specs.Enumerations.{all_items, extensible_items}
pub use Rattle.rasn_sets.specs.SetRecords.{set}
pub use Rattle.rasn_additions.specs.Groups.{group}

-- a tag of the class APPLICATION, by its number (X.680 31.2)
abbrev pub application : ℕ → TagTree
application i = leaf (record { class = 1; number = i })

-- a tag of the class PRIVATE, by its number (X.680 31.2)
abbrev pub private : ℕ → TagTree
private i = leaf (record { class = 3; number = i })

-- OBJECT IDENTIFIER (X.680 32)
abbrev pub object_identifier : Component
object_identifier = simple 6 Schemas.identifier tt refl

-- DATE (X.680 38.4), which takes two levels
abbrev pub date : Component
date = record {
  tags = universal 31;
  presence = Schemas.required;
  schema = date_at;
  levelled = date_levelled;
  fits = date_fits;
}

-- UTCTime (X.680 47)
abbrev pub utc_time : Component
utc_time = simple 23 (Schema.time utc) tt refl

-- GeneralizedTime (X.680 46)
abbrev pub generalized_time : Component
generalized_time = simple 24 (Schema.time generalized) tt refl

-- TeletexString, GraphicString and GeneralString, of which no constraint is visible (X.691 30.6)
abbrev pub teletex_string : Component
teletex_string = simple 20 (Schema.text other) tt refl

abbrev pub graphic_string : Component
graphic_string = simple 25 (Schema.text other) tt refl

abbrev pub general_string : Component
general_string = simple 27 (Schema.text other) tt refl

-- a value whose type isn't known, as octets in an open type (X.691 11.2); it has no tag of its own, and 0 stands for
-- one
abbrev pub open_type : Component
open_type = simple 0 Schemas.any tt refl

-- OCTET STRING (CONTAINING ..) (X.682 11), by what it contains: `containing boolean`
abbrev pub containing : Component → Component
containing c = record {
  tags = universal 4;
  presence = Schemas.required;
  schema = λ n. Schema.containing (c.schema n);
  levelled = containing_levelled c.levelled;
  fits = λ n. refl;
}

-- an open type whose values are of one type, as an object set tells it (X.681 14)
abbrev pub open_type_of : Component → Component
open_type_of c = record {
  tags = universal 0;
  presence = Schemas.required;
  schema = λ n. Schema.containing (c.schema n);
  levelled = containing_levelled c.levelled;
  fits = λ n. refl;
}

-- SET OF under a size, or none (X.680 28): `set_of (size 1 to 4) boolean` is SET (SIZE (1..4)) OF BOOLEAN
abbrev pub set_of : Constraints → Component → Component
set_of c member = record {
  tags = universal 17;
  presence = Schemas.required;
  schema = set_at member.schema (size_of c) (is_size_marked c);
  levelled = set_levelled (size_of c) (is_size_marked c) member.levelled;
  fits = set_fits member.schema (size_of c) (is_size_marked c);
}
