pub mod BankLogs
pub mod Entered
pub mod OwnEvents
pub mod Waits
pub mod Laws
pub mod Examples
