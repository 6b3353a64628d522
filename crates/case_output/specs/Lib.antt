-- What is printed of numbers, decimals and outputs.
pub mod Printed
