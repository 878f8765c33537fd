pub mod Alike
pub mod Compared
pub mod Joined
pub mod Kept
pub mod Near
pub mod Reports
pub mod Seen
pub mod Views
