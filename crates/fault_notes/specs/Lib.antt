pub mod Starts
pub mod CallHints
pub mod Notes
pub mod Paths
pub mod Refusals
pub mod Members
