pub mod Callers
pub mod Tallied
pub mod Audits
pub mod SoFars
pub mod LineChecks
pub mod BlockChecks
