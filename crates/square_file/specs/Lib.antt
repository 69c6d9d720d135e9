pub mod Terms
pub mod SquareFile
pub mod Programs
pub mod Measured
pub mod Outcomes
