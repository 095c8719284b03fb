pub mod Lanes
pub mod Octets
