pub mod Widths
pub mod OneOutcome
