pub mod Texts
pub mod Faults
pub mod Profiles
pub mod Containers
pub mod Heads
pub mod Pod
pub mod Reading
pub mod Seen
