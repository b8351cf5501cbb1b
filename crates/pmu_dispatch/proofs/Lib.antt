pub mod Cores
pub mod Mapped
pub mod Messages
pub mod AccessRows
pub mod LaneLooks
