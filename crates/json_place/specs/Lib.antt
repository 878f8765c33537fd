pub mod Parts
pub mod Places
pub mod Quoted
pub mod Fields
pub mod Shown
