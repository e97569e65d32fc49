pub mod Written
pub mod Decided
