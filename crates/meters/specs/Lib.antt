pub mod Sheets
pub mod Numbering
