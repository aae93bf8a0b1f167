pub mod Moving
pub mod MovingExamples
