-- What is read of a record by hand.
pub use Rattle.rasn_traits.proofs.Optionals.{bit_refused, value_unread}
pub use Rattle.rasn_traits.proofs.Reading.{addition_reads_well, fails_addition, fails_after, fails_further, fails_part, fails_required, fails_root, inside_left, part_reads_well, plainly_read, read_around, record_ended, record_endless, record_root_failed, required_read}
pub use Rattle.rasn_sets.proofs.Callers.{item_answered, set_read_each}
