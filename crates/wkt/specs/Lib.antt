pub mod Coords
pub mod Parts
pub mod Leaves
