pub mod Sizes
pub mod Meets
pub mod OneOutcome
