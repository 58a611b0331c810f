mod Injections
mod Embeddings
mod LaneWords
mod Asked
mod Sureness
mod Pivots
mod Covering
pub mod AtomCover
pub mod Deciding
pub mod Screening
