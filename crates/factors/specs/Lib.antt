pub mod Widths
pub mod Stands
pub mod Prepared
pub mod OneProof
