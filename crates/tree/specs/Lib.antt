pub mod Tree
pub mod TreeIn
pub mod Examples
