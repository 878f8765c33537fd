pub mod Runtime
pub mod Serves
pub mod Kept
pub mod Stands
