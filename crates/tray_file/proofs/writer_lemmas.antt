pub mod Puts
pub mod RecordPuts
pub mod WritableValues
pub mod WrittenRecords
