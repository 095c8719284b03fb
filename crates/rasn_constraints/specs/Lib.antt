pub mod Bounds
pub mod Constraints
pub mod LawfulConstraints
pub mod Ranges
