pub mod Outside
pub mod ReadEnds
pub mod Memory
pub mod MemoryFiles
pub mod Tally
pub mod Laws
