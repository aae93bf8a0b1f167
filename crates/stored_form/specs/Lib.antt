pub mod Form
pub mod Reading
pub mod FormExamples
pub mod Examples
