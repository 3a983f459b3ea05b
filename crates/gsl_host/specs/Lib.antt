pub mod Outside
pub mod Faults
pub mod Held
pub mod Told
