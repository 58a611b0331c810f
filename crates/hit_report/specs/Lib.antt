pub mod HitLines
pub mod RecordLines
pub mod Appends
pub mod CodesLines
