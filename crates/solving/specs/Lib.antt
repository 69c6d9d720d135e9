pub mod Taken
pub mod Solved
pub mod Primes
