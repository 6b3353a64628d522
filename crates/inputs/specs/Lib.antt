pub mod Inputs
pub mod Valid
pub mod Rules
pub mod Kinds
pub mod BuiltIn
pub mod Earlier
