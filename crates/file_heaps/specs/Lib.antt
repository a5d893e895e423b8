pub mod Names
pub mod FileHeaps
