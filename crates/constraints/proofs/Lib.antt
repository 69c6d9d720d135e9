pub mod Walk
pub mod Granted
pub mod Written
pub mod Handed
pub mod Back
pub mod Stood
pub mod Single
pub mod Lists
