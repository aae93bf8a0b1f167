pub mod Parts
pub mod ByCommas
pub mod OneOutcome
