pub mod TableSteps
pub mod OneTable
pub mod SidesSteps
