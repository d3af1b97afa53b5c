pub mod Seats
pub mod Tests
pub mod Sound
