pub mod Saying
pub mod Loading
pub mod Obeying
pub mod Prefixes
pub mod Telling
