pub mod Common
pub mod Building
pub mod Turning
pub mod Words
pub mod Links
pub mod Leaves
pub mod Deciding
pub mod Scanning
pub mod Splitting
pub mod Passing
pub mod Trees
pub mod Weights
pub mod Assembled
pub mod Finding
mod Gathering
mod Hiding
mod Settling
mod Bits
mod Restricting
pub mod Testing
mod Reaching
mod Saying
pub mod Naming
mod Diagrams
mod Exchanging
