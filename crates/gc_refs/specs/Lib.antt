pub mod Equality
pub mod Header
pub mod LittleEndian
pub mod SameView
pub mod Trace
pub mod Views
pub mod Words
