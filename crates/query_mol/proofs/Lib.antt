pub mod Examples
pub mod ListSets
pub mod Told
pub mod Drafts
pub mod Joined
