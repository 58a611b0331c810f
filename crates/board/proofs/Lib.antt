pub mod Tied
pub mod NextWord
pub mod PageWords
pub mod Stocks
pub mod TreeWords
mod MetWords
mod PassWords
pub mod Exchanged
pub mod News
pub mod Gathers
pub mod Endings
pub mod Closings
pub mod ClosedPages
pub mod StagedStays
mod TailWords
