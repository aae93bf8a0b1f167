pub mod Search
pub mod Dimension
pub mod Part
pub mod Infer
pub mod Answers
pub mod OneOutcome
