-- The definitions that the contracts of the crate cite.
pub mod Extents
pub mod Turns
pub mod Ways
pub mod Trails
