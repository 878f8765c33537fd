pub mod Work
pub mod Idle
pub mod Observed
