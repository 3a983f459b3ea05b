pub mod Declarations
pub mod Once
pub mod Sections
pub mod Calls
pub mod Growing
pub mod Finished
