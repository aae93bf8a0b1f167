pub mod Limits
pub mod OneOutcome
