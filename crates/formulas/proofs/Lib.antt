pub mod Sound
pub mod TermBounds
pub mod ValueBounds
pub mod InRange
pub mod OnTheWay
pub mod Presence
pub mod DerivedFigures
