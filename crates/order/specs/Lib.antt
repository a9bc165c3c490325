pub mod Order
pub mod Built
pub mod Endian
