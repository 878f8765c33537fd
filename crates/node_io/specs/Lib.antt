pub mod Causes
pub mod Counts
pub mod FaultText
pub mod Held
pub mod Disk
pub mod Tape
pub mod System
