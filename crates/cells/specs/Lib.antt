pub mod Lent
pub mod Written
