-- What values that are the same by their codes are.
pub use Rattle.rasn_types.proofs.Codes.{same_true}
