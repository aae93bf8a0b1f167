pub mod Canonical
pub mod Trees
pub mod PutByWalk
pub mod OneOutcome
