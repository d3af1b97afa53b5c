pub mod Said
pub mod Gates
pub mod Answers
