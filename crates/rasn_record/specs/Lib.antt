pub mod StatedComponents
pub mod Lists
pub mod ConstraintsAt
pub mod RequiredComponents
pub mod Slots
pub mod OneAddition
pub mod Trees
pub mod Sides
