pub mod Rounding
pub mod Examples
