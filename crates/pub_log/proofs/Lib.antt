pub mod Calls
pub mod Reasons
pub mod Additions
pub mod Others
pub mod Later
pub mod Moments
