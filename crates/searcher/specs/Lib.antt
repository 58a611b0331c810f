pub mod Searched
pub mod Walking
pub mod Finding
pub mod Records
