pub mod Over
pub mod Laws
pub mod Layer
