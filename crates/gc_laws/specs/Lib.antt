pub mod Rows
pub mod Laws
pub mod Pieces
pub mod Stale
pub mod Writes
