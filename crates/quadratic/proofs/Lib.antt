pub mod Interleaving
pub mod Coordinates
