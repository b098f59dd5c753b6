pub mod Fields
pub mod Makes
pub mod Mutators
pub mod Refusals
