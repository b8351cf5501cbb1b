pub mod Looking
pub mod Changing
pub mod Keeping
pub mod States
