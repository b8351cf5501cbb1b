pub mod Own
pub mod ThreadInvariant
pub mod Grant
pub mod Laws
pub mod Runs
pub mod NewSeat
