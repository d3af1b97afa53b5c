pub mod Enacted
