pub mod Numbers
pub mod Rows
pub mod Names
pub mod Operands
pub mod Front
pub mod Meant
pub mod Onward
