mod Copies
mod CallItems
pub mod Enumerations
pub mod FittingNumbers
pub mod Indexes
pub mod Marks
pub mod Moments
pub mod NumbersWithin
pub mod DatesRead
pub mod Scoping
pub mod ShortNumbers
pub mod Spans
