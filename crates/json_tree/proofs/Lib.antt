pub mod Items
pub mod Loops
pub mod Fields
pub mod Utf8
pub mod Values
pub mod After
