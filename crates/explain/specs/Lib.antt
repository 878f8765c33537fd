pub mod Explained
pub mod Objects
pub mod Text
