pub mod Calls
pub mod Acts
pub mod Kinds
pub mod Rewritten
pub mod Promises
pub mod Lasting
pub mod Examples
pub mod Rewritings
