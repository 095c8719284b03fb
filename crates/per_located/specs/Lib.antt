-- The definitions that the contracts of the crate cite.
pub mod LocatedRefusals
