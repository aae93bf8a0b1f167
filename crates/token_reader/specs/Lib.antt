pub mod Reader
pub mod Examples
