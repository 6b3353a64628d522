pub mod States
pub mod Comparisons
pub mod NextSums
pub mod Steps
pub mod Started
