pub mod Abandons
pub mod Histories
pub mod Rooms
pub mod Runs
