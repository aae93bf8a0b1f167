pub mod Nodes
pub mod Examples
