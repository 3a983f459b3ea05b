pub mod Answers
pub mod Holding
pub mod Laws
