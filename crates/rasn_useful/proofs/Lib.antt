mod OneObject
pub mod Arcs
