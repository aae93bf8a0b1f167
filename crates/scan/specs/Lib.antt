pub mod Text
pub mod Bytes
pub mod Runs
pub mod Front
pub mod Examples
