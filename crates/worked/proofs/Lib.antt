pub mod Computed
pub mod Exactly
pub mod Entries
pub mod Sheets
pub mod Fields
