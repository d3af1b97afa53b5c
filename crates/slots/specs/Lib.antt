pub mod Handed
pub mod Standing
