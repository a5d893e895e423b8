pub mod SidesLines
pub mod Swept
pub mod Laws
