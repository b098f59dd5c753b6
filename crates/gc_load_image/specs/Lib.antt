pub mod Loads
pub mod Stages
