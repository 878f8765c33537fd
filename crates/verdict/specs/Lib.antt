pub mod Stack
pub mod FaultText
