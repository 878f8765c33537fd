pub mod FaultText
pub mod Fits
pub mod Named
pub mod Writable
pub mod Written
