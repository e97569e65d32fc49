pub mod Ranges
pub mod LastLevel
pub mod Entries
pub mod Kept
pub mod Behind
