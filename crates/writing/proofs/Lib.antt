pub mod Littles
pub mod Writers
pub mod Numbered
pub mod NumberBytes
pub mod Files
