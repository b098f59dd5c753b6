pub mod Collecting
pub mod Made
