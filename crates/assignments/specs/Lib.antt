pub mod Assigned
pub mod Assignment
pub mod Read
