pub mod Unmarked
pub mod Deciding
