pub mod Entries
pub mod Loops
pub mod Parts
pub mod Readable
pub mod Whole
mod Taken
