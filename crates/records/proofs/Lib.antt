pub mod Records
pub mod Fronts
pub mod Places
pub mod Pieces
pub mod OneOutcome
