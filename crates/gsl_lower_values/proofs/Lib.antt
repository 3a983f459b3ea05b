pub mod Rows
mod Runs
mod Example
