pub mod NumberValues
pub mod SameValues
pub mod Products
