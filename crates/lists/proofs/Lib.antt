pub mod Lists
pub mod Cases
pub mod One
pub mod Ranges
pub mod Pasted
