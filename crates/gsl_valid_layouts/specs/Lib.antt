pub mod Marks
pub mod Sizes
pub mod Layouts
pub mod Stands
