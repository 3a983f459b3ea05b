pub mod Searched
pub mod Places
pub mod Rows
pub mod Passes
pub mod Stands
pub mod Numbers
pub mod Defining
pub mod Bodies
