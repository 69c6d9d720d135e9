pub mod Laws
pub mod Laws97
pub mod Laws12289
pub mod Roots
pub mod ByLogs
