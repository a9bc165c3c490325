pub mod Faults
pub mod Limits
pub mod Numbers
pub mod Standing
pub mod Turns
