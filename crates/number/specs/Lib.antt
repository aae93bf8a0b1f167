pub mod Lexeme
pub mod Grammar
pub mod Examples
