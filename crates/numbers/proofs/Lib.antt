pub mod Exact
pub mod Judged
pub mod Products
pub mod Quotients
pub mod Sums
pub mod WellFormed
pub mod Worked
