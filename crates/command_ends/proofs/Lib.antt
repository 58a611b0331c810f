pub mod Writing
pub mod Causes
pub mod Endings
pub mod Completing
