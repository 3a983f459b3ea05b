pub mod Given
pub mod Begins
pub mod Words
pub mod Entries
