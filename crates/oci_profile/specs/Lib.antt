pub mod Decision
pub mod Conditions
pub mod Entries
pub mod Meaning
pub mod Faults
pub mod Profile
pub mod Reading
pub mod RuntimeDefault
