pub mod Numbers
pub mod Trees
pub mod Slices
pub mod Stores
pub mod Stepped
pub mod Loops
pub mod Checks
pub mod OneOutcome
