pub mod Searches
pub mod Takers
