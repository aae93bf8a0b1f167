pub mod Stream
pub mod Sound
pub mod Lex
pub mod Examples
