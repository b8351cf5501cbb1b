pub mod Placed
pub mod Inside
pub mod Laws
