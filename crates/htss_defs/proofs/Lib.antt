pub mod Chains
pub mod Pairs
pub mod Flags
mod Examples
