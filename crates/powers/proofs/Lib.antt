pub mod Numbers
pub mod Cycle
pub mod Walk
pub mod Rules
