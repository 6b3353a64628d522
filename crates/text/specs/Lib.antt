pub mod Text
pub mod Numbers
pub mod Decimals
