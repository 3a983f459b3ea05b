pub mod Plain
pub mod Agreeing
pub mod Laid
pub mod Variables
pub mod Globals
pub mod Locals
pub mod Given
