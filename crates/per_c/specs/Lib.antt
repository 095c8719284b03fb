pub mod Numbers
pub mod Answers
pub mod Handles
pub mod Shown
pub mod Tables
