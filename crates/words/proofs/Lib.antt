pub mod Words
pub mod Parts
pub mod Written
pub mod ReadBack
