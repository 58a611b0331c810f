pub mod Tests
pub mod Partial
pub mod Places
pub mod Anchors
pub mod Candidates
pub mod Paid
