pub mod Widths
pub mod Codes
pub mod Instructions
pub mod CallStack
pub mod Alu
pub mod Atomics
pub mod Controls
