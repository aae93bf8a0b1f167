pub mod Expectations
pub mod Expected
pub mod Examples
