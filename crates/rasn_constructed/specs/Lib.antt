pub mod Alternatives
pub mod ListDefaults
pub mod Parts
pub mod HeldTypes
