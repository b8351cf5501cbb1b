pub mod LaneClaims
pub mod Steps
pub mod DefinedRun
pub mod EndsAfter
pub mod Choice
pub mod Scheduled
pub mod ElevenClauses
