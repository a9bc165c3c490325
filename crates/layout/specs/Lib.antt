pub mod Kinds
pub mod Info
pub mod Heads
pub mod Refusals
pub mod Shown
