pub mod Pieces
pub mod OneOutcome
