pub mod Numerals
pub mod Rows
pub mod Simple
