pub mod Listed
pub mod Serving
pub mod Stays
pub mod ById
pub mod There
