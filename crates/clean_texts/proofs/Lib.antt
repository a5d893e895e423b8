pub mod Endings
pub mod Events
pub mod Texts
