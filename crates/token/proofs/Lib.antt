pub mod Tokens
pub mod BadNumbers
pub mod OneOutcome
