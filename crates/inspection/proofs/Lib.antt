pub mod Pairs
pub mod Cells
pub mod Heads
pub mod Claims
pub mod Same
pub mod Exactly
