pub mod Bodies
pub mod Walked
pub mod Longer
pub mod Chained
pub mod Outside
pub mod Nested
