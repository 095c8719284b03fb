-- What is written of a record by hand.
pub use Rattle.rasn_traits.proofs.Writing.{last_written, required_refused, required_written, set_around, written_around}
pub use Rattle.rasn_record.proofs.OneAddition.{addition_normal, addition_refused, addition_written}
