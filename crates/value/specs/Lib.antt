pub mod Refusals
pub mod Range
pub mod Coding
pub mod Wanted
