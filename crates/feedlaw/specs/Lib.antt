pub mod Turns
pub mod Lines
pub mod Law
