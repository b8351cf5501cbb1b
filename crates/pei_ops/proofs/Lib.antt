pub mod Buckets
pub mod Bytes
pub mod Products
