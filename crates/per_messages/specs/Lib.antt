pub mod Errors
pub mod Messages
pub mod Paths
pub mod Remarks
