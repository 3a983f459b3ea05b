pub mod Candidates
pub mod Calls
