pub mod Boxes
pub mod Tables
pub mod Closing
pub mod OneOutcome
