pub mod Advice
pub mod Words
