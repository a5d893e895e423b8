pub mod Ends
pub mod ExecEnds
