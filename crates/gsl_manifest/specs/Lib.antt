pub mod Numbers
pub mod Fields
pub mod Meanings
pub mod Manifests
pub mod Drafts
pub mod Listing
pub mod Spelling
pub mod Printing
