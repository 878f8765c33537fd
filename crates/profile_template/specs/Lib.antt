pub mod Architectures
pub mod Faults
pub mod Reading
pub mod Resolved
pub mod Settings
pub mod Signs
pub mod Version
