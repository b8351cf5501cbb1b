pub mod Digits
pub mod AskedWords
pub mod Loaded
pub mod Statuses
pub mod WritingOn
pub mod FileUses
pub mod Served
pub mod RunsServed
mod KernelsServed
pub mod ThreadsServed
mod ChecksServed
