pub mod Heads
pub mod Fills
pub mod Looks
pub mod Outcomes
pub mod Accepts
pub mod Accepted
pub mod OneOutcome
