pub mod Chosen
pub mod OneVerdict
pub mod Wider
