pub mod Texts
pub mod Coordinates
pub mod Sheets
pub mod Circuits
pub mod Doublings
pub mod Composing
pub mod Single
