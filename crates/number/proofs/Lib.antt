pub mod Stop
pub mod Equal
pub mod Inner
pub mod Text
pub mod Plain
pub mod Fours
pub mod OneOutcome
