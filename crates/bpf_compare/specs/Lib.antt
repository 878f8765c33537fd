pub mod Known
pub mod Value
pub mod Stands
pub mod Agree
pub mod Paths
