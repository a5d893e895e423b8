mod Giving
pub mod Viewing
