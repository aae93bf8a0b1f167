pub mod Writing
pub mod WritingExamples
