pub mod Running
pub mod Gone
pub mod GroupsDone
pub mod Heard
pub mod Lasts
pub mod Closed
mod LateEvent
pub mod Searched
