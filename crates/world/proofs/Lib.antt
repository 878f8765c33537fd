pub mod Parts
pub mod Exits
pub mod Creations
pub mod Every
pub mod Steps
