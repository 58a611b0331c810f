pub mod Faults
pub mod ReportLines
pub mod Stages
pub mod StageOf
pub mod Taken
pub mod Runs
