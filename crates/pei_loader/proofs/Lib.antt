pub mod Refusals
pub mod Words
pub mod EntriesFound
pub mod Lines
