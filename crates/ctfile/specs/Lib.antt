pub mod RecordList
pub mod Cut
pub mod Stream
