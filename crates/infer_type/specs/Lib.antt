pub mod Part
pub mod Search
pub mod Infer
pub mod Answers
pub mod Examples
