pub mod Stops
pub mod StopText
