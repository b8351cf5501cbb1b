pub mod Commands
pub mod Jobs
pub mod Words
pub mod FaultLines
pub mod VerdictLines
pub mod Uses
pub mod Outcomes
pub mod ThreadedOutcomes
