pub mod State
pub mod Seats
