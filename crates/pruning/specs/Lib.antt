pub mod Touches
pub mod Courses
pub mod OneProof
pub mod Passing
pub mod Words
pub mod Laws
