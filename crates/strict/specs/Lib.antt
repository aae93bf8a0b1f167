pub mod Rules
pub mod Strict
pub mod Outcome
pub mod Examples
