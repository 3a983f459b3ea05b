pub mod Members
pub mod Swizzles
pub mod Paths
pub mod Heights
pub mod Constructors
