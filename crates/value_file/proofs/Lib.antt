pub mod Parts
pub mod Readable
pub mod Dues
