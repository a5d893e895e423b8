pub mod PartSteps
pub mod Steps
pub mod Grouping
pub mod CountSteps
