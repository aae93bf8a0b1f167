pub mod Printing
pub mod Examples
