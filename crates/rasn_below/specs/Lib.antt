pub mod Calls
pub mod Components
pub mod OwnTags
pub mod Page
pub mod Times
pub mod Types
pub mod Values
