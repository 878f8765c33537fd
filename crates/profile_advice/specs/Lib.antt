pub mod Advice
pub mod Calls
pub mod Conditions
pub mod Entries
pub mod Judged
pub mod Laws
pub mod Names
