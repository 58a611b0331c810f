pub mod Working
pub mod Meeting
pub mod Merging
pub mod Walking
pub mod Workers
pub mod Passed
pub mod Passing
