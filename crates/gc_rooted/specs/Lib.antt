pub mod Hashes
pub mod Marks
pub mod RootScopes
