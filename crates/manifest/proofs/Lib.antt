pub mod Defaults
pub mod Distinct
pub mod Found
pub mod FoundPod
pub mod Only
