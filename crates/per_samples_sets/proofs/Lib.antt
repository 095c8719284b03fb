pub mod ByItem
pub mod Contents
pub mod Written
