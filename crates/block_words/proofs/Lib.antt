pub mod Fields
pub mod Places
pub mod Shows
mod Reading
