pub mod Asking
pub mod Needs
pub mod Coming
pub mod Bodies
