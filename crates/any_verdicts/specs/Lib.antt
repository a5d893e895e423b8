pub mod Chosen
pub mod Verdicts
pub mod Lines
