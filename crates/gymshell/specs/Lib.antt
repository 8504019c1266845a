pub mod Standing
pub mod Wire
pub mod Asking
