pub mod Outcome
pub mod Means
pub mod Parts
