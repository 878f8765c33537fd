pub mod Index
pub mod TableRules
