pub mod filling_lemmas
pub mod encoding_lemmas
pub mod reading_lemmas
