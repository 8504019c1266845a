pub mod Feeding
pub mod Piece
pub mod Session
pub mod Waiting
pub mod Handing
