-- What an author's values are, in the words of a page's `contents`.
pub use Rattle.rasn_types.specs.Values.{Value, whole, truth, nothing, item, root, added, octets, bits, characters}
pub use Rattle.rasn_types.specs.Values.{alternative, code, day, equal_lists}
unfoldable pub use Rattle.rasn_types.specs.Values.{same, bag_of}
pub use Rattle.rasn_types.specs.Contents.{utc}
pub use Rattle.rasn_schema.specs.Components.{chosen_value, sequence_value}
pub use Rattle.rasn_schema.specs.Structures.{list_value, record_value}
pub use Rattle.rasn_traits.specs.Moments.{identifier_value}
pub use Rattle.rasn_traits.specs.Presences.{slot_of}
pub use Rattle.rasn_record.specs.Lists.{deeper_of}
pub use Rattle.rasn_record.specs.Slots.{slot_levels}
pub use Rattle.rasn_sets.specs.SetRecords.{set_value}
