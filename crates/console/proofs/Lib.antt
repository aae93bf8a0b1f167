pub mod Numbers
pub mod OneOutcome
