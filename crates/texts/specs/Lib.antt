pub mod Parts
pub mod Tallied
pub mod Distinct
pub mod Laws
