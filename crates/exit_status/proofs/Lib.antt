pub mod Pieces
pub mod EndSteps
