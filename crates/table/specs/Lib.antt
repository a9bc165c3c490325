pub mod Placed
pub mod Tables
pub mod Writing
