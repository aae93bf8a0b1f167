pub mod Weights
pub mod Light
pub mod Looks
pub mod OneOutcome
