pub mod CondLists
pub mod Names
pub mod Found
pub mod Fits
pub mod Only
pub mod Avoids
pub mod Answered
pub mod Default
