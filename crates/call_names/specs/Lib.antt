pub mod Marks
pub mod Tests
pub mod Text
pub mod Words
