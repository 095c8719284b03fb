pub mod UnmadeOctets
pub mod Remarked
pub mod Strictly
pub mod Words
