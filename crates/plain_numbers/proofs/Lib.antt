pub mod Reading
pub mod OneOutcome
