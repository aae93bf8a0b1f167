pub mod Counts
pub mod Fields
pub mod Looks
pub mod Put
pub mod OneOutcome
