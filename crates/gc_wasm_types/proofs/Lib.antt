pub mod Checking
pub mod Loaded
pub mod Loading
pub mod OwnedNames
pub mod SmallNumbers
pub mod Storing
