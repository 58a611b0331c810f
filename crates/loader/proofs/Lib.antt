pub mod Sealing
pub mod BlockRows
pub mod Staged
