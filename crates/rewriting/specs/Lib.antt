pub mod Requests
pub mod Closed
pub mod Rules
pub mod Sections
pub mod Rewriting
