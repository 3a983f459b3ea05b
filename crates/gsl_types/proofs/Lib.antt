pub mod Layers
pub mod Structs
pub mod Counts
pub mod Sizes
pub mod Shapes
pub mod Chains
pub mod Longer
pub mod Everywhere
