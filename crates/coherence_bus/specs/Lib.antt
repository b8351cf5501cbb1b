pub mod Hierarchy
pub mod Inside
pub mod Laws
pub mod Wants
