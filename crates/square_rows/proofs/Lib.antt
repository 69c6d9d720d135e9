pub mod Weighted
pub mod Places
pub mod Sides
pub mod Records
pub mod TermLists
