mod Stacks
pub mod Lists
