pub mod Seated
pub mod Refused
pub mod Closed
pub mod Staging
pub mod Claimed
pub mod Tails
