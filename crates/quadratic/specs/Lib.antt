pub mod Doubled
pub mod Interleave
pub mod Doubling
pub mod Norm
