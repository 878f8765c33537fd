pub mod Bits
pub mod Words
pub mod Walks
pub mod Waiting
mod Same
