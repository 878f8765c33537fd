pub mod Digits
pub mod Plays
pub mod Lines
