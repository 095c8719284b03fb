pub mod Answers
pub mod Exchanges
pub mod Readings
pub mod NumbersKept
pub mod CountableOpens
pub mod Writable
