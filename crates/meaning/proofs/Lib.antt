pub mod Files
pub mod Lengths
pub mod Over
pub mod Parts
pub mod Walks
