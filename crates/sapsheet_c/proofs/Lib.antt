pub mod Written
pub mod Sheets
pub mod Files
pub mod Single
