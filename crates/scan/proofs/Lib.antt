pub mod Bytes
pub mod Runs
pub mod Front
pub mod OneOutcome
