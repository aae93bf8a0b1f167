pub mod Known
pub mod Runs
pub mod Fits
pub mod Stores
pub mod OneOutcome
