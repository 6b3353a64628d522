pub mod StandsLaws
pub mod Constants
pub mod Hours
pub mod Places
pub mod Ages
