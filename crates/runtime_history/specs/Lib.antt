pub mod Lacking
pub mod History
pub mod Agreed
pub mod Sandboxes
pub mod Keyed
