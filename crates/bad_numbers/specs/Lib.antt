pub mod Openings
pub mod Examples
