pub mod Fronts
pub mod StreamSteps
