pub mod Registers
pub mod Written
pub mod Comparing
