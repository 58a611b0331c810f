pub mod Loading
pub mod Inserting
pub mod Walking
pub mod Stocked
pub mod Refusing
pub mod Linking
pub mod Splitting
pub mod FullChains
