pub mod Joining
pub mod Progress
