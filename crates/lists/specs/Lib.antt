pub mod Lists
pub mod One
pub mod Options
