pub mod Known
pub mod LineSteps
pub mod ServeSteps
pub mod ServedSteps
pub mod Carried
