pub mod Tables
pub mod Levels
pub mod Totals
pub mod Orders
