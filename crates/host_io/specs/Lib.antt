pub mod Places
pub mod Shelf
