pub mod Forest
pub mod Visits
pub mod Marking
pub mod QueryFlags
