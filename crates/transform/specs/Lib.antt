pub mod Polynomial
pub mod Theory
pub mod Logarithm
pub mod Outcomes
