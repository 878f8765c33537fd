pub mod Kinds
pub mod Near
