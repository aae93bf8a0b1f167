pub mod Sizes
pub mod Pieces
pub mod Counts
pub mod Larger
pub mod OneOutcome
