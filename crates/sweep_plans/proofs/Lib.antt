pub mod ByteSteps
pub mod CodeSteps
pub mod ListSteps
pub mod GlitchSteps
pub mod PlaceSteps
pub mod PartSteps
