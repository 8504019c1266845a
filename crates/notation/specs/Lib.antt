pub mod Parts
pub mod Text
pub mod Reading
pub mod Pushing
pub mod Words
pub mod Law
