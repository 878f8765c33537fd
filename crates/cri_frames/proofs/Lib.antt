pub mod OneSplit
pub mod SomeSplit
pub mod Moved
pub mod NotReceived
pub mod NotReplied
