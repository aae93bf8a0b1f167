pub mod Cells
pub mod Zeros
pub mod Rows
pub mod OneOutcome
