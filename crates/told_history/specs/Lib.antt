pub mod LaidJobs
pub mod Logs
pub mod Reads
pub mod Named
pub mod Telling
pub mod Weighing
