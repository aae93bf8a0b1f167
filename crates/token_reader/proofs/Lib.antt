pub mod Reader
mod Told
mod Parts
mod Loan
mod Making
mod Stepping
mod Through
pub mod OneOutcome
