pub mod Turns
pub mod OneOutcome
