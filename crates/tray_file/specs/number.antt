pub mod Numbers
pub mod NumberCauses
pub mod NumberExamples
pub mod NumberReading
pub mod BadNumbers
pub mod NumberWriting
