pub mod Architectures
pub mod CallWords
pub mod Capabilities
pub mod Words
