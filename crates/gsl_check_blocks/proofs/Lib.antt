pub mod MemberTypes
pub mod Behind
pub mod Flags
pub mod Drafts
