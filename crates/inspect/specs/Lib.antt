pub mod Ends
pub mod Listed
pub mod Faults
pub mod Shown
pub mod Sourced
