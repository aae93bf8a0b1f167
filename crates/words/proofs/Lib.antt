pub mod Words
pub mod OneOutcome
