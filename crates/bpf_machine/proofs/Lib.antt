pub mod Steps
pub mod Progress
pub mod Simulation
pub mod LongestRun
