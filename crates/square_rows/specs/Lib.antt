pub mod RowKinds
pub mod Combined
pub mod Terms
