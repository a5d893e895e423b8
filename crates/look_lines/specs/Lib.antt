pub mod Alterations
pub mod Controls
pub mod Inputs
pub mod Lists
pub mod Looks
pub mod Ranges
pub mod Texts
