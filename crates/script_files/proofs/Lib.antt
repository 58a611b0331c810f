pub mod JobFiles
pub mod Rising
