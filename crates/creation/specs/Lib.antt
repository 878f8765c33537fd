pub mod Files
pub mod Made
