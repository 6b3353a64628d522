pub mod Side
pub mod OneProof
