pub mod Status
pub mod Judged
pub mod Compiled
pub mod Compared
pub mod Room
pub mod Templates
pub mod Explained
pub mod Versions
