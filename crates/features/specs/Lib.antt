pub mod Features
pub mod Kept
