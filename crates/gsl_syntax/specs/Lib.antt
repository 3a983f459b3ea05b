pub mod Declarations
pub mod Nesting
pub mod Operators
pub mod Phrases
pub mod Sentences
pub mod Statements
