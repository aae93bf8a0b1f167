pub mod Decimal
pub mod Units
pub mod Reckon
pub mod Code
pub mod Spellings
pub mod Examples
