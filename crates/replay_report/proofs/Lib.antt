pub mod Filters
pub mod LeakSteps
pub mod OneReport
pub mod GroupSteps
pub mod ReportSteps
pub mod OutlineSteps
