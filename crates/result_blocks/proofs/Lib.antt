pub mod Turns
pub mod Output
pub mod OneBlock
pub mod Running
