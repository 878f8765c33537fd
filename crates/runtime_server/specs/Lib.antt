pub mod Inputs
pub mod Accepting
pub mod Places
pub mod Queue
pub mod Recording
pub mod Telling
pub mod Templates
pub mod Wrong
