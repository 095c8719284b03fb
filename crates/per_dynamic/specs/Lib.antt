pub mod Alike
pub mod OpenTypes
