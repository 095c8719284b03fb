pub mod OneAddition
pub mod Reads
pub mod Writes
