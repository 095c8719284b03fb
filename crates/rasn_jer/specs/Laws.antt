pub mod Relations
pub mod EmptyGroups
