pub mod Codes
mod Crosses
mod HandleContents
mod Values
