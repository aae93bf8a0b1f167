pub mod Digits
pub mod Buffers
pub mod OneOutcome
