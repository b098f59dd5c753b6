pub mod Roots
pub mod Columns
pub mod Lends
