pub mod Rows
pub mod Encoded
pub mod Apart
