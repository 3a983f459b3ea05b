pub mod Searching
pub mod Lookups
pub mod Rules
pub mod Example
mod ExampleTypes
mod ExampleCalls
mod ExamplePortable
