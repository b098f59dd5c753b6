pub mod EntriesKept
pub mod Entries
pub mod Keys
pub mod Making
