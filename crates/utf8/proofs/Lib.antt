pub mod Table
pub mod Leads
pub mod Followed
pub mod Walk
pub mod Chunks
pub mod Characters
pub mod OneOutcome
