pub mod PlacesInside
pub mod Lines
