pub mod Restart
pub mod BackOff
pub mod Tracks
pub mod Phases
pub mod Names
