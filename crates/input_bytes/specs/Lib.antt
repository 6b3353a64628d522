-- What a program reads, and when it has run all its cases.
pub mod Reading
