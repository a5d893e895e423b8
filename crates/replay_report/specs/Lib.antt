pub mod Filtering
pub mod Leaks
pub mod LeakLines
pub mod Findings
pub mod Report
pub mod Outlines
pub mod Laws
