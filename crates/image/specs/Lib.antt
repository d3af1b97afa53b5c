pub mod Records
pub mod Reading
pub mod Marks
pub mod Promise
pub mod Examples
