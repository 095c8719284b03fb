pub mod PlacesInside
pub mod TypeRules
pub mod Subidentifiers
pub mod OneLevel
