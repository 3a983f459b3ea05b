pub mod Qualifiers
