pub mod Parts
pub mod RunParts
pub mod Steps
pub mod Looks
pub mod Runs
pub mod Stages
