pub mod Defaults
pub mod Depths
pub mod Names
pub mod Types
pub mod Values
