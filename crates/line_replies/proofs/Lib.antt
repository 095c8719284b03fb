pub mod LineLaws
pub mod OutputLaws
pub mod ReplyLaws
