pub mod Rows
pub mod Six
pub mod Found
pub mod Only
pub mod First
pub mod Attempts
