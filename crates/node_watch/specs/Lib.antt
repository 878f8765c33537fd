pub mod Calls
pub mod Changes
pub mod Counts
pub mod Losses
pub mod Reasons
pub mod Seen
pub mod Waits
pub mod WaitTexts
