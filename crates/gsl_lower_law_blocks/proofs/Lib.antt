pub mod Laid
pub mod Shown
pub mod Lying
pub mod Placed
