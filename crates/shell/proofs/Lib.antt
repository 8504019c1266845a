pub mod Taking
pub mod Amounts
pub mod Runs
pub mod Law
