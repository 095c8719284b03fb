pub mod Components
pub mod Equality
pub mod SetsRead
pub mod SetRecords
pub mod Turns
pub mod Laws
