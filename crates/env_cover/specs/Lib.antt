pub mod Sure
pub mod Reach
pub mod Law
pub mod Cover
pub mod Screening
