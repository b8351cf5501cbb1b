pub mod Cache
pub mod Inside
pub mod Laws
