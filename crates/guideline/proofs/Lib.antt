pub mod ColumnBounds
pub mod Steps
