pub mod Clean
pub mod Texts
