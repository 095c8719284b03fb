pub mod Kinds
pub mod Calls
pub mod Within
