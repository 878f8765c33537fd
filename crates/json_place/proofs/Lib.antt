pub mod Fitting
pub mod Odd
pub mod PlacedFields
pub mod SameReading
