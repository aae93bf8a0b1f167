pub mod Signed
pub mod Places
pub mod Examples
