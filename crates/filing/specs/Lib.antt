pub mod Filed
pub mod Shown
