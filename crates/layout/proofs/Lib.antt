pub mod Each
pub mod Words
