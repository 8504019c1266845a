pub mod Counting
pub mod Fewer
pub mod Placing
