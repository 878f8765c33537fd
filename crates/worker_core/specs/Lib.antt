pub mod Answers
pub mod Known
pub mod Slots
pub mod Turns
pub mod Order
pub mod Kept
pub mod Nodes
pub mod Laws
