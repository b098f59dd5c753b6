pub mod Parts
pub mod Text
pub mod Reading
pub mod Declaring
pub mod Well
pub mod Images
pub mod Alike
pub mod Steps
