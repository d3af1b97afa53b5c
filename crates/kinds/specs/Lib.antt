pub mod Bytes
pub mod Table
pub mod Flows
pub mod Operands
