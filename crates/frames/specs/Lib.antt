pub mod Little
pub mod Faults
pub mod Checks
pub mod Sections
pub mod Shown
