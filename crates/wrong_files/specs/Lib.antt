pub mod HintText
pub mod Texts
pub mod Trees
pub mod Documents
pub mod Hints
