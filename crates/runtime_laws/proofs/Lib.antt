pub mod Lists
pub mod Slots
pub mod Steps
pub mod Goes
pub mod Seen
pub mod Every
pub mod Reported
pub mod Links
