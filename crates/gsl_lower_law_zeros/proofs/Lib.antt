pub mod Said
pub mod Given
