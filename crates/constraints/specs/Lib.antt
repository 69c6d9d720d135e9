pub mod Lists
pub mod Opened
pub mod Circuit
pub mod Reader
