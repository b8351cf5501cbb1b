pub mod CodeSequences
pub mod Compiled
pub mod DistinctNames
pub mod Layouts
pub mod LineCounts
pub mod LineWords
pub mod LinesLeft
mod Lookups
pub mod Printable
pub mod Reaches
pub mod Sequences
pub mod Shallow
pub mod TableValues
pub mod Waiting
