pub mod Blocks
mod Digits
pub mod Joins
pub mod Sites
