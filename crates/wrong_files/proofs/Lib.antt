pub mod Places
pub mod TreesRead
