pub mod Faults
pub mod Step
pub mod Whole
