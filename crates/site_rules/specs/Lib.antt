pub mod Blocks
pub mod Refusals
pub mod Site
pub mod Results
pub mod Passed
pub mod Bounds
pub mod Written
pub mod Steps
