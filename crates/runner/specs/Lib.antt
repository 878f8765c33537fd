pub mod Gathered
pub mod Readings
pub mod Desks
pub mod Connection
pub mod Steps
pub mod Shared
pub mod Labelled
pub mod Rounds
