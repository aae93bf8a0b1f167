pub mod Stream
pub mod Sound
pub mod Bridge
pub mod Marks
pub mod Each
