pub mod Facts
mod Lists
mod Evaluated
mod Stages
mod Building
mod Forms
mod Quiet
pub mod Lengths
pub mod Whole
pub mod Gathered
pub mod Unread
