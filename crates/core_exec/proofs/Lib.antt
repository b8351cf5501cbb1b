pub mod Busy
pub mod Replies
