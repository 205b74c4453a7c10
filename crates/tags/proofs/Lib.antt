pub mod marks_lemmas
pub mod runs_lemmas
pub mod tag_lemmas
