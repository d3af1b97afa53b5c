pub mod Filled
pub mod Machines
pub mod Reading
pub mod Stands
pub mod Pieces
pub mod Testing
pub mod Regions
