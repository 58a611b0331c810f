pub mod ReportText
pub mod Values
pub mod Typed
