pub mod Treated
