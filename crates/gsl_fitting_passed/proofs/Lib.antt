pub mod Zeros
pub mod Passing
pub mod Returning
pub mod Called
