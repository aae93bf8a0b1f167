pub mod Strings
pub mod Names
pub mod Table
pub mod Letters
pub mod Examples
