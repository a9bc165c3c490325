pub mod Rows
pub mod Views
pub mod Walks
