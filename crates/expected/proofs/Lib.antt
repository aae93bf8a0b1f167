pub mod Laws
pub mod Tokens
pub mod There
pub mod OneOutcome
