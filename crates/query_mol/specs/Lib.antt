pub mod QueryLines
pub mod QueryRecord
pub mod ListWords
pub mod LineFacts
pub mod Tests
pub mod QueryKept
pub mod QueryAtoms
pub mod QueryOutcome
