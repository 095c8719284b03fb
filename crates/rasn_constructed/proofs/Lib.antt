pub mod ChoiceTests
pub mod Equality
pub mod Forms
pub mod Listed
pub mod RecordTests
pub mod TwoRecords
