pub mod Machine
pub mod Programs
pub mod Memory
pub mod Caches
