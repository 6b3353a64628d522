pub mod Sizes
pub mod Direction
pub mod Within
pub mod Number
pub mod Round
pub mod Operations
pub mod WorkingForm
