pub mod Ranges
pub mod Changes
pub mod Given
pub mod KeptUses
pub mod Fit
pub mod Running
