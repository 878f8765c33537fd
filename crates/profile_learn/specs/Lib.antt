pub mod Allowed
pub mod Entries
pub mod Kept
pub mod Needed
pub mod Sightings
pub mod Small
