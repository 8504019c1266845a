pub mod Calls
pub mod Counted
pub mod Holding
pub mod Poured
