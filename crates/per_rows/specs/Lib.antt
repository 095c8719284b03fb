pub mod Build
pub mod DeepDefaults
pub mod Samples
