pub mod TreesRead
