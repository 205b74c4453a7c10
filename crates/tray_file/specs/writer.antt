pub mod WriteRefusals
pub mod Writing
pub mod Pages
pub mod Writers
pub mod ReadingBack
