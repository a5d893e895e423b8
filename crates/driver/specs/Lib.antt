pub mod Once
pub mod Certified
pub mod Choosing
pub mod AnyCertified
pub mod Carried
pub mod Sweeping
pub mod Laws
