pub mod Either
pub mod Piles
pub mod Bottoms
pub mod Boxed
