pub mod Inputs
pub mod Lodgings
