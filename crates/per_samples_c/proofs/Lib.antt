pub mod Alone
pub mod Contents
pub mod Defaults
pub mod Filters
pub mod Trees
