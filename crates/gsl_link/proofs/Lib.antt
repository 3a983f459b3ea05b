pub mod OneUnit
pub mod Example
pub mod Found
mod Again
mod LargeGlobals
mod Linked
mod Steps
mod Undefined
