pub mod Marks
pub mod MarksRead
pub mod Lines
