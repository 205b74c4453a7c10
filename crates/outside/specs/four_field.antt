pub mod FourElements
pub mod FourLaws
pub mod TableLaws
