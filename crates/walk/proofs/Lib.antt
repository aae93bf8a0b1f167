pub mod Sizes
pub mod Nested
pub mod Firsts
pub mod Stack
pub mod Wants
pub mod Steps
pub mod Fed
pub mod OneOutcome
