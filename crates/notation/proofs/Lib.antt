pub mod Decoded
pub mod Parts
pub mod Coming
pub mod Lines
pub mod ReadBack
pub mod RoundTrip
