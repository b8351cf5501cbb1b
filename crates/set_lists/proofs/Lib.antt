pub mod Members
pub mod Slots
pub mod Keeping
pub mod Holding
pub mod Finding
pub mod Listing
pub mod Room
