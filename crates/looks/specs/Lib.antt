pub mod LongLines
pub mod Views
