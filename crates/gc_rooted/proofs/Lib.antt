pub mod GoneRoots
pub mod Marked
