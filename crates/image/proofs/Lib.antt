pub mod Places
pub mod Steps
pub mod Strides
pub mod Fuel
pub mod Marks
pub mod Ways
pub mod Promise
pub mod Worked
