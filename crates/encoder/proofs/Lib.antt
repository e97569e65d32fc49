pub mod Inverting
pub mod Stages
pub mod Symbols
