pub mod Numbers
pub mod Visits
pub mod Store
pub mod IsTree
pub mod Walk
pub mod Examples
