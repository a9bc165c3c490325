pub mod Numbered
pub mod Spelled
