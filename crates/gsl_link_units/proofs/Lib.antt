pub mod Folds
mod Searching
