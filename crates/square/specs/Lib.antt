pub mod Rows
pub mod Program
pub mod Polynomials
pub mod Rules
pub mod Outcomes
