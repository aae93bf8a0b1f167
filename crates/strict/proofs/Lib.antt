pub mod Rules
pub mod Faults
pub mod Outcome
pub mod OneOutcome
