pub mod Places
pub mod Outs
pub mod States
