pub mod Lookup
pub mod Capitals
pub mod Rows
pub mod Fronts
pub mod Table
pub mod Letters
pub mod OneOutcome
