pub mod OneOutcome
pub mod Marks
