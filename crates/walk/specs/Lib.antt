pub mod Walk
pub mod Examples
