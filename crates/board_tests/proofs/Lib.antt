pub mod Opened
pub mod Searched
pub mod Stays
