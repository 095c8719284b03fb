pub mod Relations
pub mod Sets
pub mod EmptyGroups
