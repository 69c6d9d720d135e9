pub mod RowLists
pub mod Labels
pub mod FileParts
pub mod Encoded
pub mod Dues
