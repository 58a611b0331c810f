pub mod Arrays
pub mod Grouped
pub mod Built
pub mod Facts
pub mod Settled
