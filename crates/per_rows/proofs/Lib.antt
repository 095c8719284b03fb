pub mod Defaulted
pub mod Long
pub mod Reading
pub mod Skipping
pub mod Unfoldings
