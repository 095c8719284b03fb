pub mod Foreign
pub mod Intervals
pub mod Prepared
pub mod Walks
pub mod Laws
pub mod Dates
pub mod Moments
pub mod Values
