pub mod History
pub mod Agree
