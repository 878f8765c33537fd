pub mod Faults
pub mod Histories
pub mod Rooms
pub mod Receipts
pub mod Books
