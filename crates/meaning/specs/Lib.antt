pub mod Table
pub mod Adding
pub mod Questions
pub mod File
