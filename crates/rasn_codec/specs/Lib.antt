pub mod AtDefault
