pub mod Slice
pub mod Laws
pub mod FlatMeaning
