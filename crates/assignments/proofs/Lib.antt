pub mod Walk
pub mod Filled
pub mod Stands
pub mod Parts
