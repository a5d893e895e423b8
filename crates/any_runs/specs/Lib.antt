pub mod Sharper
pub mod Stands
pub mod Inputs
pub mod Echoes
pub mod EchoRuns
pub mod Secrets
