pub mod Numbers
pub mod Faults
pub mod Walk
pub mod Shapes
pub mod Bytes
pub mod Stands
