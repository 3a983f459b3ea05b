pub mod Arms
pub mod Flows
pub mod Performing
