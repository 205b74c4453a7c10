pub mod four_field
pub mod FourCards
pub mod FourRuns
pub mod EventTexts
