pub mod JobFiles
