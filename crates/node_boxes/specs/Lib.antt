pub mod Boxes
pub mod Turns
pub mod Holds
pub mod Faults
pub mod Examples
