pub mod Words
pub mod Changes
pub mod Lists
pub mod Chains
pub mod Offsets
pub mod Lends
