pub mod Shape
pub mod Matrix
pub mod Rules
pub mod Outcomes
pub mod Model
