pub mod Canonical
pub mod Write
pub mod Put
pub mod Examples
