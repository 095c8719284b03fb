-- What a type that states its schema itself names: schemas under constraints, their levels, their parts and their tags.
pub use Rattle.rasn_types.specs.declared.types.TheConstants.Tag.{BOOL, INTEGER, BIT_STRING, OCTET_STRING, NULL}
pub use Rattle.rasn_types.specs.declared.types.TheConstants.Tag.{OBJECT_IDENTIFIER, ENUMERATED, UTF8_STRING, SEQUENCE}
pub use Rattle.rasn_types.specs.declared.types.TheConstants.Tag.{SET, DATE, UTC_TIME, GENERALIZED_TIME, EOC}
pub use Rattle.rasn_types.specs.Alphabets.{from_to, visible}
unfoldable pub use Rattle.rasn_types.specs.Alphabets.{interval_of}
pub use Rattle.rasn_constraints.specs.Bounds.{Size, any_size, between, unbounded}
pub use Rattle.rasn_constraints.specs.Ranges.{i128_range, no_constraints, signed_range, unsigned_range}
pub use Rattle.rasn_schema.specs.Schemas.{Schema, cut, boolean, listed, by_tag}
pub use Rattle.rasn_schema.specs.Schemas.{Parts, no_parts, part, Presence, required, optional, default}
pub use Rattle.rasn_schema.specs.Schemas.{TagTree, leaf, one_of, no_trees, tree}
unfoldable pub use Rattle.rasn_schema.specs.Schemas.{smallest, least_of}
unfoldable pub use Rattle.rasn_schema.specs.Normal.{normal, normals, settle, over_bag}
pub use Rattle.rasn_schema.specs.Forms.{always, number_schema, octet_schema, bit_schema, character_schema}
pub use Rattle.rasn_schema.specs.Levels.{Levelled, no_level, simple_levelled, part_levelled, parts_levelled}
pub use Rattle.rasn_schema.specs.Levels.{record_levelled, to_choice, to_leaf, to_list, to_no_parts, to_part}
pub use Rattle.rasn_schema.specs.Levels.{to_sequence}
pub use Rattle.rasn_schema.specs.Tags.{AreTagsOf, IsTagOf, IsTreeAt}
pub use Rattle.rasn_schema.specs.Tags.{choice_stated, choice_tag, sequence_stated, sequence_tag}
pub use Rattle.rasn_schema.specs.Components.{alternatives_at, components_levelled, sequence_at, sequence_levelled}
pub use Rattle.rasn_schema.specs.Components.{lower_bound, upper_bound}
pub use Rattle.rasn_schema.specs.Records.{AtParts, no_additions, record_at}
pub use Rattle.rasn_schema.specs.Extensions.{unextended}
pub use Rattle.rasn_schema.specs.Choices.{VariantShape, choice_at, choice_levelled, tree_with, variants_of}
pub use Rattle.rasn_schema.specs.Lists.{deepest, list_at, list_levelled}
pub use Rattle.rasn_schema.specs.Fields.{in_tag_order, shapes_from, tagged}
pub use Rattle.rasn_schema.specs.Orders.{canonised, canonised_slots}
pub use Rattle.rasn_traits.specs.Moments.{date_at}
pub use Rattle.rasn_schema.specs.Bags.{set_at as set_of_at, set_levelled as set_of_levelled}
pub use Rattle.rasn_sets.specs.SetRecords.{set_at, set_levelled, set_stated, set_tag}
pub use Rattle.rasn_useful.specs.Laws.Dates.{date_levelled}
