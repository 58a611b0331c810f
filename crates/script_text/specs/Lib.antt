pub mod Grammar
pub mod Scripts
pub mod Reading
pub mod FilesByLine
pub mod Generator
