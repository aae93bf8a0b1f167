pub mod Measures
pub mod Putting
pub mod Written
pub mod Rewritten
pub mod Moved
pub mod OneOutcome
