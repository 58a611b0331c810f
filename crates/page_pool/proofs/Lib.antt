pub mod Looks
pub mod Passing
pub mod Giving
pub mod Holding
