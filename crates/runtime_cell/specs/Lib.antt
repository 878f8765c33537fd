pub mod Outcome
pub mod Cell
pub mod Laws
pub mod Keeps
