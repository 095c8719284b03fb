pub mod Lists
pub mod Outsides
pub mod Steps
pub mod Openings
pub mod Lending
pub mod Turns
pub mod InTurn
pub mod Laws
