pub mod Standing
pub mod Named
pub mod Starting
pub mod Calling
