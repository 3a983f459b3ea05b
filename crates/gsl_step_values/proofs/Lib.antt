pub mod Two
pub mod Serving
pub mod Built
pub mod Ones
pub mod Inside
pub mod Gathered
pub mod Picked
