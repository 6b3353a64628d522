pub mod Lengths
pub mod NoneLine
