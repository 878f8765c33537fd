pub mod Stops
pub mod TreesRead
pub mod Views
