pub mod Weights
pub mod Looks
pub mod Examples
