pub mod Exponent
pub mod Range
pub mod Decimal
pub mod Fraction
pub mod Lists
pub mod Figures
