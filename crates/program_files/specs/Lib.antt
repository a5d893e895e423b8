pub mod Opened
pub mod Files
pub mod Profiles
