pub mod Updates
pub mod Tracks
pub mod Past
pub mod ContainerActions
pub mod Next
pub mod Laws
