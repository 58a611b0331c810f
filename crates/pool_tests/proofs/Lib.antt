pub mod Idle
pub mod Taken
