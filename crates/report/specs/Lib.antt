pub mod Text
pub mod Times
pub mod Outcome
pub mod Means
