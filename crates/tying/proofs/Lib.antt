pub mod Effects
pub mod Books
pub mod Turns
pub mod Reports
pub mod Lodgings
