pub mod Words
pub mod Pointing
pub mod Search
pub mod Records
pub mod Laws
pub mod Gathering
