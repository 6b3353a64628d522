pub mod BlockLines
pub mod ResultLines
pub mod Listings
