pub mod HeaderPlaces
pub mod BodyOffsets
pub mod RecordPlaces
pub mod TaskTurns
pub mod Runs
pub mod OneRecord
pub mod OneFile
pub mod Answers
