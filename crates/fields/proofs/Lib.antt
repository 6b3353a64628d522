pub mod Exponents
pub mod Fields
pub mod ReadBack
