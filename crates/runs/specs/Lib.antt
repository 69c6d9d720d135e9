pub mod Runs
pub mod Survey
pub mod Law
