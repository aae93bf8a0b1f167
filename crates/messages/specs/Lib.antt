pub mod Messages
pub mod ExpectedLines
pub mod Complaint
pub mod Examples
