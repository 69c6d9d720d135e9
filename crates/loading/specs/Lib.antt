pub mod Rows
pub mod Entries
pub mod Loaded
pub mod Assigns
