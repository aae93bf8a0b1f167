pub mod Pen
pub mod Examples
