pub mod WordLaws
pub mod AnswerLaws
pub mod FormLaws
pub mod Nearest
