pub mod Running
pub mod Spelled
pub mod LineEnds
pub mod Cuts
pub mod Ranges
pub mod FirstFaults
pub mod Complete
