pub mod Powers
pub mod Values
