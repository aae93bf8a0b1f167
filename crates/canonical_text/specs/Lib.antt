pub mod Canonical
pub mod Examples
