pub mod ValueFile
pub mod Outcomes
