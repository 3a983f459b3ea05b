pub mod Ends
mod Example
