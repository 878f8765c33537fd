pub mod Places
pub mod Rules
pub mod Stored
pub mod FirstFault
pub mod WaysOn
