pub mod Orders
pub mod Isas
