pub mod RestOfLists
pub mod Slots
pub mod BothRead
pub mod BothWritten
pub mod LevelsWithin
pub mod OneAddition
pub mod Trees
pub mod FirstOnSide
