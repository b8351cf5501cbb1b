pub mod Effect
pub mod CoreView
pub mod Wait
