pub mod Code
pub mod Reading
pub mod Flow
pub mod Text
pub mod OperandText
pub mod FaultText
