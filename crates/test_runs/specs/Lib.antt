pub mod Executions
pub mod Prepared
pub mod Executed
pub mod Overflows
