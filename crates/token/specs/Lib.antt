pub mod Tokens
pub mod Examples
