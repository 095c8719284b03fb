pub mod OneSchema
pub mod Tables
pub mod Taking
mod Numbers
mod FirstNamed
