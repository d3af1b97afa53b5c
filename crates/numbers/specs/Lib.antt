pub mod Integers
pub mod Floats
pub mod Operations
