pub mod Heads
pub mod Row
