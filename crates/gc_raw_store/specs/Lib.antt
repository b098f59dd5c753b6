pub mod Allocation
pub mod HostLends
pub mod Stores
