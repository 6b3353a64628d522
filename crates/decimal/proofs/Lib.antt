pub mod Bias
pub mod OperandFacts
pub mod Laws
pub mod CoreOperations
pub mod Ranges
pub mod Approximation
pub mod Value
pub mod Steps
