mod Coming
pub mod InBlocks
pub mod Literals
pub mod Shapes
pub mod Standing
pub mod Told
pub mod There
