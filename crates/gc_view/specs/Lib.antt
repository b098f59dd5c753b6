pub mod Heaps
pub mod Bytes
pub mod Sizes
pub mod Pages
pub mod Reach
pub mod Slots
