pub mod Decoded
pub mod Elements
pub mod Contained
mod FirstPlace
pub mod SameValues
pub mod TestedCharacters
pub mod Named
