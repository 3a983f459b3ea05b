pub mod Each
pub mod Given
