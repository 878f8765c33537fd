pub mod Verdict
pub mod Errnos
pub mod Shown
