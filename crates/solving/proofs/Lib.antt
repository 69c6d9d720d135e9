pub mod Solve
pub mod Filling
pub mod Files
pub mod Primes
