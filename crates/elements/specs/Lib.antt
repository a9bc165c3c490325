pub mod Packing
pub mod Typed
