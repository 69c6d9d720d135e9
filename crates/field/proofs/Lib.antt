pub mod Ring
pub mod Solve
pub mod Cancel
pub mod Powers
pub mod Decided
