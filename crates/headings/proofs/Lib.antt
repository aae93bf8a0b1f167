pub mod Runs
pub mod Heads
pub mod Ascii
pub mod OneOutcome
