pub mod Meaning
pub mod Writing
pub mod Faults
pub mod Table
pub mod Contents
pub mod SparseMeaning
pub mod Laws
pub mod Free
