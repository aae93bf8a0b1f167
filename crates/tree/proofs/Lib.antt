pub mod TreeIn
pub mod Closed
pub mod Parts
pub mod KnownRows
