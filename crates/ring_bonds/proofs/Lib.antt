pub mod Walks
pub mod Climbs
pub mod Rings
pub mod Visits
pub mod Tops
pub mod Molecules
pub mod QueryBonds
