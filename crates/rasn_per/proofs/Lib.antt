pub mod Answered
pub mod Decoded
pub mod Encoded
pub mod ItemCounts
pub mod Fronts
pub mod Named
