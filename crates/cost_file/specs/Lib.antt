pub mod Records
pub mod Texts
pub mod Files
pub mod Promises
pub mod Contents
