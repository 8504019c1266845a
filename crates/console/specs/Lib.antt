pub mod Ends
pub mod Windows
pub mod Playing
pub mod Running
pub mod Pumping
pub mod Faults
