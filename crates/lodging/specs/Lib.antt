pub mod Lodged
