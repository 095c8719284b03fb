pub mod Bags
pub mod Canonised
pub mod Places
pub mod DistinctAlternatives
pub mod Sorting
pub mod TagOrder
pub mod TreeTags
