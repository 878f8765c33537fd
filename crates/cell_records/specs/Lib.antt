pub mod RecordText
pub mod Steps
pub mod Summary
