pub mod Arguments
pub mod ClapCommand
pub mod Tasks
