pub mod Loads
pub mod Values
