pub mod Frames
pub mod Streams
pub mod FaultText
pub mod Received
pub mod Calls
pub mod Splitting
pub mod Steps
