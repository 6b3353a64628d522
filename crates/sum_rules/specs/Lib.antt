pub mod Answer
pub mod Share
pub mod Verdict
pub mod ListCall
pub mod Steps
pub mod Promise
pub mod Example
pub mod EachPasses
