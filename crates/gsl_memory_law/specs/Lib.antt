pub mod Typed
