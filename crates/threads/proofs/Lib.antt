pub mod Shifts
pub mod Wakes
