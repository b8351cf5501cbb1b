pub mod CheckerParts
pub mod Sides
pub mod InState
pub mod Issues
pub mod Cores
pub mod CheckedFront
pub mod Verdicts
pub mod Laws
