-- What is printed of a case.
pub mod Lines
