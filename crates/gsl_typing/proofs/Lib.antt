mod Example
pub mod Missing
pub mod Tests
