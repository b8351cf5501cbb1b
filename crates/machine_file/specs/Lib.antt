pub mod Keys
pub mod Machine
pub mod Faults
pub mod Laws
pub mod Examples
