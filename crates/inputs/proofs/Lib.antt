pub mod Tests
pub mod AllEarlier
