pub mod Counting
pub mod Joining
pub mod Giving
pub mod Declaring
pub mod Adding
pub mod Fine
