pub mod Script
pub mod Reading
pub mod FaultText
pub mod Faults
