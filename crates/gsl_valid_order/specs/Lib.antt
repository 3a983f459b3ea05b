pub mod Seen
pub mod Returned
pub mod Nested
pub mod Nearby
