pub mod Pieces
pub mod MarkPositions
pub mod Fragments
pub mod OpenSets
pub mod Turns
