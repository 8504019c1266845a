pub mod Compared
pub mod Words
pub mod Playing
