pub mod Scopes
pub mod Table
