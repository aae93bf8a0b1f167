pub mod ShownLaws
pub mod OneOutcome
