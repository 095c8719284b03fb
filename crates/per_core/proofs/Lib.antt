pub mod SpellingsAgree
pub mod Canonical
pub mod ConstrainedLengths
pub mod Counting
pub mod Laws
pub mod LengthForms
pub mod Numbers
pub mod Positions
pub mod Presenting
pub mod Records
pub mod Strings
pub mod TakenInTurn
pub mod Unique
pub mod Readings
pub mod WriterSpellings
pub mod Filling
pub mod Zeros
pub mod SetOrders
pub mod Placing
pub mod SetReadings
mod ArcCounts
mod ItemCounts
pub mod LengthCounts
pub mod TakenItems
pub mod ItemsWithin
pub mod HeldIn
mod NullRows
pub mod Fits
