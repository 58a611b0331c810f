pub mod Files
pub mod Causes
pub mod Counts
pub mod Written
pub mod Memory
