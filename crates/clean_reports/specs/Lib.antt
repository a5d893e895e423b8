pub mod Agreement
pub mod Uses
pub mod Marks
pub mod Heap
pub mod Disturbed
pub mod Laws
pub mod Verdicts
pub mod Lines
