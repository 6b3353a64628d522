pub mod Rules
pub mod Pieces
pub mod Reading
pub mod Layouts
pub mod Answers
