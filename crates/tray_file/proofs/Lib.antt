pub mod number_lemmas
pub mod body_lemmas
pub mod reader_lemmas
pub mod writer_lemmas
