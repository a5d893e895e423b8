pub mod NumberSteps
pub mod RangeLaw
