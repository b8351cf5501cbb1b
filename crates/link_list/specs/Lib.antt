pub mod Linked
pub mod Walks
pub mod Laws
pub mod Examples
