pub mod Known
pub mod Products
