pub mod Arrays
pub mod Truths
pub mod LongBitmaps
