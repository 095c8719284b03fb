mod FrontOctets
mod Paths
mod Refused
mod Unmade
mod Walked
