pub mod Arguments
pub mod Faults
pub mod Nodeagent
pub mod Numbers
pub mod Scriptctl
pub mod Scriptd
pub mod Words
