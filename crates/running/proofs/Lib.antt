pub mod Picks
pub mod Entries
