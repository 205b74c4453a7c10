pub mod inked_lemmas
pub mod LineAndRead
pub mod MarkTable
pub mod FiledTags
