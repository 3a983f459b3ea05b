pub mod Framed
pub mod Does
pub mod Coming
pub mod Calling
