pub mod Meaning
pub mod Homes
pub mod Code
pub mod Emitted
pub mod Lines
pub mod Layout
pub mod Programs
pub mod Examples
