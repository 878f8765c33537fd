pub mod Outcomes
pub mod Follows
pub mod Grows
pub mod Kept
pub mod Counted
