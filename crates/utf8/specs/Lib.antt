pub mod Utf8
pub mod Leads
pub mod Characters
pub mod Examples
