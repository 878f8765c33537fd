pub mod Units
pub mod UnitText
