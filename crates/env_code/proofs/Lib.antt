pub mod Counts
pub mod Within
pub mod Words
pub mod Lanes
pub mod Tallies
mod Steps
pub mod Coding
