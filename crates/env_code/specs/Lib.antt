pub mod BondCounts
pub mod Near
pub mod Walks
pub mod Coders
