pub mod Limits
pub mod Setups
pub mod Scenario
pub mod Edits
pub mod Lent
