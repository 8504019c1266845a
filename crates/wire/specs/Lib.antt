pub mod Decode
pub mod Line
pub mod Encode
