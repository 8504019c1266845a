pub mod Words
pub mod Verbs
pub mod Grammar
pub mod Reading
pub mod Faults
pub mod Amount
pub mod Answers
pub mod Law
