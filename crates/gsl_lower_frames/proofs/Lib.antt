pub mod Codes
pub mod Found
pub mod Texts
pub mod Numbers
pub mod Starts
pub mod Owners
pub mod Calls
pub mod Main
