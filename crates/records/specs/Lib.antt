pub mod Records
pub mod Lines
pub mod Input
pub mod Examples
