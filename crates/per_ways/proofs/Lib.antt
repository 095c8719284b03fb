-- The lemmas that proofs of the crate share.
pub mod FieldPlaces
