-- What is printed of what the calls send back.
pub mod Sent
