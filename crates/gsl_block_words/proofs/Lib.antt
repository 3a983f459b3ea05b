pub mod Seeing
pub mod Puts
pub mod Formed
pub mod Buffered
