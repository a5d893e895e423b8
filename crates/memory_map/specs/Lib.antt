pub mod Regions
pub mod Usual
