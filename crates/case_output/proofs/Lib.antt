-- One byte more of an output's weight, and texts written one after another.
pub mod Weights
pub mod Written
