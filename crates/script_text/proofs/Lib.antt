pub mod Numerals
pub mod Words
pub mod Steps
pub mod Lookups
pub mod Generated
