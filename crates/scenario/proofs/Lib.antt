pub mod FrontSteps
pub mod InputSteps
pub mod EditLaws
pub mod EditSteps
pub mod TrailFacts
