pub mod Numbers
pub mod Bodies
pub mod Returns
pub mod OneOutcome
