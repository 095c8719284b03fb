pub mod Columns
pub mod Digits
pub mod Remarks
pub mod Replies
pub mod Requests
