pub mod Merging
pub mod Holding
pub mod Plans
pub mod Tries
pub mod Stages
pub mod LongLines
