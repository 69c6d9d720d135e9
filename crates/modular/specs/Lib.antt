pub mod Residues
pub mod Residue
pub mod Arithmetic
pub mod Modular
pub mod Field97
pub mod Laws97
pub mod Field12289
pub mod Laws12289
