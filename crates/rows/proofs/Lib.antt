mod Finds
pub mod Lookups
mod Paths
mod Passed
