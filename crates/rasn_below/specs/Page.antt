-- All that a page of an author's types, and its schema, name: values, components, and lists.
pub use Rattle.rasn_types.specs.Values.{Value, whole, truth, nothing, item, root, added, octets, bits, characters}
pub use Rattle.rasn_types.specs.Values.{alternative, code, day, equal_lists}
pub use Rattle.rasn_types.specs.Contents.{utc}
pub use Rattle.rasn_schema.specs.Components.{chosen_value, sequence_value}
pub use Rattle.rasn_schema.specs.Structures.{list_value, record_value}
pub use Rattle.rasn_traits.specs.Moments.{identifier_value}
pub use Rattle.rasn_traits.specs.Presences.{slot_of}
pub use Rattle.rasn_record.specs.Lists.{deeper_of}
pub use Rattle.rasn_record.specs.Slots.{slot_levels}
pub use Rattle.rasn_sets.specs.SetRecords.{set_value}
pub use Rattle.rasn_schema.specs.Components.{Component, TypeLists, Chosen, chosen, chosen_behind, fields_in, fields_of}
pub use Rattle.rasn_schema.specs.Components.{added_parts, parts_of, root_parts, variants_listed}
pub use Rattle.rasn_schema.specs.Components.{u8, u16, u32, u64, i8, i16, i32, i64, i128, big}
pub use Rattle.rasn_schema.specs.Components.{any, ◌to◌, minus◌to◌, minus◌to_minus◌, from, from_minus, up_to}
pub use Rattle.rasn_schema.specs.Components.{up_to_minus, size◌to◌, size_from, size_up_to, extensible, of_characters}
pub use Rattle.rasn_schema.specs.Components.{universal, simple, at, under, own_tags, automatic, automatic_from}
pub use Rattle.rasn_schema.specs.Components.{extensible_own_tags, extensible_automatic, optional, default}
pub use Rattle.rasn_schema.specs.Components.{boolean, null, integer, bit_string, named_bits, octet_string}
pub use Rattle.rasn_schema.specs.Components.{enumerated, extensible_enumerated}
pub use Rattle.rasn_schema.specs.Components.{utf8_string, numeric_string, printable_string, ia5_string, visible_string}
pub use Rattle.rasn_schema.specs.Components.{bmp_string}
pub use Rattle.rasn_schema.specs.Components.{sequence, sequence_of, choice}
pub use Rattle.rasn_schema.specs.Enumerations.{all_items, extensible_items}
pub use Rattle.rasn_sets.specs.SetRecords.{set}
pub use Rattle.rasn_additions.specs.Groups.{group}
pub use Rattle.rasn_below.specs.Components.{application, private, object_identifier, date, utc_time, generalized_time}
pub use Rattle.rasn_below.specs.Components.{teletex_string, graphic_string, general_string, open_type, set_of}
pub use Rattle.rasn_below.specs.Components.{containing, open_type_of}
