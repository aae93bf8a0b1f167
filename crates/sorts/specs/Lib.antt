pub mod Taken
pub mod Examples
