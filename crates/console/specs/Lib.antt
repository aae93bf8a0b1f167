pub mod Console
pub mod Examples
