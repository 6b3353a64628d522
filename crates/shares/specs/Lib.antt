pub mod Runs
pub mod Ready
pub mod Plan
