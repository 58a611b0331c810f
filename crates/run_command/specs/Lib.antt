pub mod Runs
pub mod Headline
pub mod Searchers
pub mod Hearing
